-- The clauses before this place are settled.
use Rattle.lls_store.specs.Store.{GoesOn}
use Rattle.lls_store.specs.Sound.{IsSound}
use Rattle.lls_watch.specs.Passed.{live_from}
use Rattle.lls_watch.specs.Short.{AreSatisfied}
use Rattle.lls_watch.proofs.short.settle_all.Given as goal

abbrev pub invariant-loop-k : goal.invariant-loop-k
invariant-loop-k l = GoesOn l.fn.trail l.trail × IsSound (live_from 0 l.arena.heads) l.trail × AreSatisfied (live_from 0 l.arena.heads) l.trail.entries l.clauses l.k
