use Rattle.lls_problem.specs.Bounds.{grid_size}
use Rattle.lls_problem.specs.Solution.{IsSolution}
use Rattle.lls_least.specs.Bounded.{live_cells}
use Rattle.lls_least.proofs.Solutions.{numbers_beyond}
use Rattle.lls_least.proofs.tightening.tighten.Given as goal

abbrev pub invariant-tighter : goal.invariant-tighter
invariant-tighter l = IsSolution l.problem l.history

abbrev pub decreases-tighter : goal.decreases-tighter
decreases-tighter l = numbers_beyond l.extreme (grid_size l.problem.posed) (live_cells l.history)
