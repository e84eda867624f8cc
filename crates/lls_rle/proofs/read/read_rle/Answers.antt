use Rattle.std.proofs.Common.{◌+◌, length, ap, ◌∙◌, sym, arith}
use Rattle.lls_text.proofs.LineCounts.{length-lines_of}
use Rattle.lls_rle.specs.Reader.{total}
use Rattle.lls_rle.specs.Reading.{body_of, tokens_of_lines}
use Rattle.lls_rle.proofs.LineTotals.{total-lines_of}
use Rattle.lls_rle.proofs.Whole.{read_whole}
use Rattle.lls_rle.proofs.read.read_rle.Goals as goal

pub header_number-requires : goal.header_number-requires
header_number-requires c = omega (arith, ap length c.new-lines.ensures, length-lines_of c.args.bytes.now, c.requires.bytes)

pub overflow_add-number : goal.overflow_add-number
overflow_add-number c = omega (arith, ap length c.new-lines.ensures, length-lines_of c.args.bytes.now, c.requires.bytes, c.in-Some.ensures.number)

pub take_lines-requires-clause-lines : goal.take_lines-requires-clause-lines
take_lines-requires-clause-lines c = omega (arith, ap length c.new-lines.ensures, length-lines_of c.args.bytes.now, c.requires.bytes, c.in-Some.ensures.number)

pub take_lines-requires-clause-row : goal.take_lines-requires-clause-row
take_lines-requires-clause-row c = omega (arith, ap total c.new-lines.ensures, total-lines_of c.args.bytes.now, c.requires.bytes, c.in-Some.ensures.total, c.in_ok-reader.ensures.place)

pub take_lines-requires-clause-column : goal.take_lines-requires-clause-column
take_lines-requires-clause-column c = omega (arith, ap total c.new-lines.ensures, total-lines_of c.args.bytes.now, c.requires.bytes, c.in-Some.ensures.total, c.in_ok-reader.ensures.place)

pub returns : goal.returns
returns c =
    read_whole c.args.height c.args.width c.args.bytes.now (tokens_of_lines (c.in-Some.number + 1) c.header_number.new.lines) c.in_ok-reader.reader c.take_lines.result c.in_ok-reader.ensures.none
    (ap (body_of 1) (sym c.new-lines.ensures) ∙ c.in-Some.ensures.found) c.take_lines.ensures ∙ c.in_ok-take_lines.was
