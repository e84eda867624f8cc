use Rattle.std.proofs.Common.{◌<◌, ℕ}
use Rattle.lls_problem.specs.Differences.{AreAlikeInRow}
use Rattle.lls_problem.proofs.differences.generations_differ.Given as goal

-- the rows so far are the same
abbrev pub invariant-loop-y : goal.invariant-loop-y
invariant-loop-y l = (y : ℕ) → y < l.y → AreAlikeInRow l.problem l.history l.s l.t y
