use Rattle.std.proofs.Common.{◌≡◌, ◌++◌, take}
use Rattle.std.specs.List.{flat_map}
use Rattle.lls_cnf.specs.DimacsText.{header_text, clause_text}
use Rattle.lls_cnf.proofs.print.print_dimacs.Given as goal

abbrev pub invariant-loop-k : goal.invariant-loop-k
invariant-loop-k l = l.text.items ≡ header_text l.formula ++ flat_map clause_text (take l.k l.formula.clauses)
