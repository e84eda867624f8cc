use Rattle.std.proofs.Common.{◌≡◌, []}
use Rattle.std.specs.List.{flat_map, range_with_len}
use Rattle.lls_problem.proofs.Shorter.{returning_by}
use Rattle.lls_problem.proofs.exact.first_of.Given as goal

-- generation 0 isn't there again after those by the numbers so far
abbrev pub invariant-loop-q : goal.invariant-loop-q
invariant-loop-q l = flat_map (returning_by l.problem l.history l.period) (range_with_len 0 l.q) ≡ []
