use Rattle.std.proofs.Common.{◌<◌, ℕ}
use Rattle.lls_grid.specs.History.{cells_of}
use Rattle.lls_problem.specs.Judgement.{KeepsBit}
use Rattle.lls_problem.proofs.cells.first_misfit.Given as goal

-- the fixed cells so far have their bits
abbrev pub invariant-loop-k : goal.invariant-loop-k
invariant-loop-k l = (j : ℕ) → j < l.k → KeepsBit l.problem.posed.cells (cells_of l.history) j
