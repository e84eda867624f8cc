use Rattle.std.proofs.Common.{◌≡◌, []}
use Rattle.std.specs.List.{flat_map, range_with_len}
use Rattle.lls_problem.specs.Losses.{losses_at}
use Rattle.lls_problem.proofs.losses.first_of.Given as goal

-- nothing of the generations so far is lost
abbrev pub invariant-loop-t : goal.invariant-loop-t
invariant-loop-t l = flat_map (losses_at l.problem l.history l.period) (range_with_len 0 l.t) ≡ []
