use Rattle.std.proofs.Common.{◌≡◌, []}
use Rattle.std.specs.List.{flat_map, range_with_len}
use Rattle.lls_symmetry.specs.Moved.{row_entering}
use Rattle.lls_problem.specs.Losses.{lost_of}
use Rattle.lls_problem.proofs.losses.first_entered.Given as goal

-- those of the rows so far are
abbrev pub invariant-loop-y : goal.invariant-loop-y
invariant-loop-y l = flat_map (λ y. flat_map (lost_of l.problem.rule l.history) (row_entering l.course l.problem.posed.height l.problem.posed.width y)) (range_with_len 0 l.y) ≡ []
