use Rattle.std.proofs.Common.{length, ap, arith}
use Rattle.std.proofs.lemmas.Result.{err_from_is_err_and}
use Rattle.lls_search_file.specs.Reader.{counts_of}
use Rattle.lls_search_file.proofs.Endings.{posed_of-fault, posed_of-end}
use Rattle.lls_text.proofs.LineCounts.{length-lines_of}
use Rattle.lls_search_file.proofs.read.read_posed.Goals as goal

pub overflow_add-number : goal.overflow_add-number
overflow_add-number c =
    omega (arith, c.loop-line.invariant.count, ap length c.in-Some.ensures.steps, length-lines_of c.args.bytes.now)

pub returns-in_err-take_line : goal.returns-in_err-take_line
returns-in_err-take_line c =
    let counts = counts_of c.loop-line.reader in
    let p = err_from_is_err_and c.from_residual.result c.from_residual.ensures.1 in
    rw (p.1, p.2) (λ fault is. posed_of-fault c.args.bytes.now c.in-Some.line.now c.loop-line.line-iterator c.next.new.self c.loop-line.number counts fault c.loop-line.invariant.lines
    c.in-Some.ensures.steps (c.in_err-take_line.ensures.counts fault is))

pub returns : goal.returns
returns c =
    rw (posed_of-end c.args.bytes.now c.loop-line.line-iterator c.loop-line.number (counts_of c.loop-line.reader) c.loop-line.invariant.lines c.in-None.ensures.steps.0) c.finish.ensures
