use Rattle.std.proofs.Common.{◌≤◌, ◌∙◌, sym, map, length, arith}
use Rattle.std.proofs.lemmas.List.{length-map}
use Rattle.lls_search_file.specs.Seen.{seen_word}
use Rattle.lls_search_file.proofs.Rows.{row-spelled, row-some}
use Rattle.lls_search_file.proofs.read.Reader.take_line.Goals as goal

pub take_row-requires-clause-some : goal.take_row-requires-clause-some
take_row-requires-clause-some c =
    let words = c.in_ok-words.words.items in
    let some : 1 ≤ length (map seen_word words) = row-some c.args.number c.args.line.now (map seen_word words) (sym c.is_blank_line.ensures ∙ c.if-is_blank_line.false) c.in_ok-words.ensures in
    rw c.deref.ensures.value (omega (arith, some, length-map words seen_word))

pub take_row-requires-clause-spelled : goal.take_row-requires-clause-spelled
take_row-requires-clause-spelled c =
    let words = c.in_ok-words.words.items in
    rw c.deref.ensures.value (row-spelled c.args.number c.args.line.now (map seen_word words) c.in_ok-words.ensures)
