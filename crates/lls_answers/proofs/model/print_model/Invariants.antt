use Rattle.std.proofs.Common.{◌≡◌, ◌++◌, drop}
use Rattle.std.specs.Prelude.{codes}
use Rattle.lls_answers.specs.ModelText.{values_text}
use Rattle.lls_answers.proofs.model.print_model.Given as goal

abbrev pub invariant-loop-n : goal.invariant-loop-n
invariant-loop-n l = l.text.items ++ values_text l.n (drop l.n l.assignment) ≡ codes "s SATISFIABLE\nv" ++ values_text 0 l.assignment
