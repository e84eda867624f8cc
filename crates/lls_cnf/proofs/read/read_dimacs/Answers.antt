use Rattle.std.proofs.Common.{◌≡◌, ◌∷◌, List, length, arith, ap, sym, ◌∙◌}
use Rattle.std.specs.List.{flat_map}
use Rattle.std.proofs.lemmas.List.{length-append}
use Rattle.lls_cnf.specs.Dimacs.{Numbered, words_on, counted_lines}
use Rattle.lls_cnf.proofs.Counts.{length-words_of_text}
use Rattle.lls_cnf.proofs.read.read_dimacs.Goals as goal

pub read_clauses-requires-clause-room : goal.read_clauses-requires-clause-room
read_clauses-requires-clause-room c =
    let rest = c.next.new.self in
    let lines : counted_lines c.args.bytes.now ≡ c.in-Some.first ∷ rest = sym c.new-lines.ensures ∙ c.in-Some.ensures in
    let whole = ap (λ (ls : List Numbered). length (flat_map words_on ls)) lines in
    rw c.new.ensures (omega (arith, whole, length-append (words_on c.in-Some.first) (flat_map words_on rest), length-words_of_text c.args.bytes.now))
