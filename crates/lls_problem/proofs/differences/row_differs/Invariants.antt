use Rattle.std.proofs.Common.{◌<◌, ℕ}
use Rattle.lls_problem.specs.Differences.{AreAlikeAt}
use Rattle.lls_problem.proofs.differences.row_differs.Given as goal

-- the cells so far are the same
abbrev pub invariant-loop-x : goal.invariant-loop-x
invariant-loop-x l = (x : ℕ) → x < l.x → AreAlikeAt l.problem l.history l.s l.t l.y x
