use Rattle.std.proofs.Common.{◌≡◌, []}
use Rattle.std.specs.List.{flat_map, range_with_len}
use Rattle.lls_symmetry.specs.Moved.{leaving}
use Rattle.lls_problem.specs.Losses.{lost_of}
use Rattle.lls_problem.proofs.losses.first_left_in_row.Given as goal

-- the cells so far are where the course takes them
abbrev pub invariant-loop-x : goal.invariant-loop-x
invariant-loop-x l = flat_map (λ x. lost_of l.problem.rule l.history (leaving l.course l.y x)) (range_with_len 0 l.x) ≡ []
