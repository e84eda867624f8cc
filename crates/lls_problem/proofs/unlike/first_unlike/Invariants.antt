use Rattle.std.proofs.Common.{◌≡◌, []}
use Rattle.std.specs.List.{flat_map, range_with_len}
use Rattle.lls_problem.specs.Unlike.{unlike_under}
use Rattle.lls_problem.proofs.unlike.first_unlike.Given as goal

-- under the generators so far all cells are like their images
abbrev pub invariant-loop-k : goal.invariant-loop-k
invariant-loop-k l = flat_map (unlike_under l.problem l.history) (range_with_len 0 l.k) ≡ []
