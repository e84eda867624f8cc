use Rattle.std.proofs.Common.{length}
use Rattle.lls_store.proofs.Cut.{IsCutting}
use Rattle.lls_store.proofs.trail.Trail.cut.Given as goal

abbrev pub invariant-loop-self : goal.invariant-loop-self
invariant-loop-self l = IsCutting l.initial.self l.level l.self

abbrev pub decreases-loop-self : goal.decreases-loop-self
decreases-loop-self l = length l.self.entries
