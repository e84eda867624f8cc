use Rattle.std.proofs.Common.{◌≡◌, []}
use Rattle.std.specs.List.{flat_map, range_with_len}
use Rattle.lls_symmetry.specs.Moved.{entering}
use Rattle.lls_problem.specs.Losses.{lost_of}
use Rattle.lls_problem.proofs.losses.first_entered_in_row.Given as goal

-- the cells so far that come from outside the grid are as they were there
abbrev pub invariant-loop-x : goal.invariant-loop-x
invariant-loop-x l = flat_map (λ x. flat_map (lost_of l.problem.rule l.history) (entering l.course l.problem.posed.height l.problem.posed.width l.y x)) (range_with_len 0 l.x) ≡ []
