use Rattle.std.proofs.Common.{◌≡◌}
use Rattle.std.specs.List.{flat_map, range_with_len}
use Rattle.lls_symmetry.specs.Moved.{entering}
use Rattle.lls_transition.specs.Clause.{with_clauses}
use Rattle.lls_encode.specs.Formula.{moved_clauses}
use Rattle.lls_encode.proofs.period.push_row_entering.Given as goal

-- the cells so far
abbrev pub invariant-loop-x : goal.invariant-loop-x
invariant-loop-x l = l.formula ≡ with_clauses l.fn.formula (flat_map (λ x. flat_map (moved_clauses l.problem) (entering l.course l.problem.posed.height l.problem.posed.width l.y x)) (range_with_len 0 l.x))
