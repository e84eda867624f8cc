use Rattle.std.proofs.Common.{◌<◌, ℕ}
use Rattle.lls_grid.specs.History.{cells_of}
use Rattle.lls_problem.specs.Judgement.{KeepsName}
use Rattle.lls_problem.proofs.cells.first_disagreement.Given as goal

-- the cells so far agree with the first cells of their names
abbrev pub invariant-loop-k : goal.invariant-loop-k
invariant-loop-k l = (j : ℕ) → j < l.k → KeepsName l.problem.posed.cells (cells_of l.history) j
