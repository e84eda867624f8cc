use Rattle.std.proofs.Common.{◌≡◌, []}
use Rattle.std.specs.List.{flat_map, range_with_len}
use Rattle.lls_problem.specs.Unlike.{unlike_in_generation}
use Rattle.lls_problem.proofs.unlike.first_under.Given as goal

-- the generations so far are like their images
abbrev pub invariant-loop-t : goal.invariant-loop-t
invariant-loop-t l = flat_map (unlike_in_generation l.problem l.history l.k) (range_with_len 0 l.t) ≡ []
