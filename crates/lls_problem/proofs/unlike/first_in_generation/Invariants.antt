use Rattle.std.proofs.Common.{◌≡◌, []}
use Rattle.std.specs.List.{flat_map, range_with_len}
use Rattle.lls_problem.specs.Unlike.{unlike_in_row}
use Rattle.lls_problem.proofs.unlike.first_in_generation.Given as goal

-- the rows so far are like their images
abbrev pub invariant-loop-y : goal.invariant-loop-y
invariant-loop-y l = flat_map (unlike_in_row l.problem l.history l.k l.t) (range_with_len 0 l.y) ≡ []
