use Rattle.lls_analyse.specs.Minimised.{Minimises}
use Rattle.lls_analyse.proofs.minimise.minimise.Given as goal

abbrev pub invariant-loop-k : goal.invariant-loop-k
invariant-loop-k g l = Minimises (g.S.Store.state l.store).live l.trail l.initial.visited l.visited
