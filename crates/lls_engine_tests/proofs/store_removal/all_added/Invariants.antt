use Rattle.lls_store.specs.Sound.{IsSound}
use Rattle.lls_store.specs.Worked.{IsResting}
use Rattle.lls_engine_tests.proofs.store_removal.all_added.Given as goal

abbrev pub invariant-loop-numbers : goal.invariant-loop-numbers
invariant-loop-numbers g l = g.S.Store.tracks l.store l.trail × IsSound (g.S.Store.state l.store).live l.trail × IsResting (g.S.Store.state l.store) l.now
