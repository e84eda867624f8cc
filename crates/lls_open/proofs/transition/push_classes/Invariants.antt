use Rattle.std.proofs.Common.{◌≡◌}
use Rattle.std.specs.List.{flat_map, range_with_len}
use Rattle.lls_transition.specs.Clause.{with_clauses}
use Rattle.lls_open.specs.Formula.{class_clauses}
use Rattle.lls_open.proofs.transition.push_classes.Given as goal

-- the clauses of the classes so far
abbrev pub invariant-loop-k : goal.invariant-loop-k
invariant-loop-k l = l.formula ≡ with_clauses l.fn.formula (flat_map (class_clauses l.problem l.form l.classes l.inputs) (range_with_len 0 l.k))
