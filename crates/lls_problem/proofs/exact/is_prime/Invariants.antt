use Rattle.std.proofs.Common.{◌≢◌, ◌<◌, ◌≤◌, ℕ, ◌%◌}
use Rattle.lls_problem.proofs.exact.is_prime.Given as goal

-- none of the numbers so far divides it
abbrev pub invariant-loop-k : goal.invariant-loop-k
invariant-loop-k l = (j : ℕ) → 2 ≤ j → j < l.k → l.q % j ≢ 0
