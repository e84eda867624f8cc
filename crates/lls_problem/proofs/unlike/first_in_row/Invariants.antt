use Rattle.std.proofs.Common.{◌≡◌, []}
use Rattle.std.specs.List.{flat_map, range_with_len}
use Rattle.lls_problem.specs.Unlike.{unlike_at}
use Rattle.lls_problem.proofs.unlike.first_in_row.Given as goal

-- the cells so far are like their images
abbrev pub invariant-loop-x : goal.invariant-loop-x
invariant-loop-x l = flat_map (unlike_at l.problem l.history l.k l.t l.y) (range_with_len 0 l.x) ≡ []
