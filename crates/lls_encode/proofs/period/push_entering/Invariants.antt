use Rattle.std.proofs.Common.{◌≡◌}
use Rattle.std.specs.List.{flat_map, range_with_len}
use Rattle.lls_symmetry.specs.Moved.{row_entering}
use Rattle.lls_transition.specs.Clause.{with_clauses}
use Rattle.lls_encode.specs.Formula.{moved_clauses}
use Rattle.lls_encode.proofs.period.push_entering.Given as goal

-- the rows so far
abbrev pub invariant-loop-y : goal.invariant-loop-y
invariant-loop-y l = l.formula ≡ with_clauses l.fn.formula (flat_map (λ y. flat_map (moved_clauses l.problem) (row_entering l.course l.problem.posed.height l.problem.posed.width y)) (range_with_len 0 l.y))
