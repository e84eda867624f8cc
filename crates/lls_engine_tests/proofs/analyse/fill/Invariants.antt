use Rattle.lls_store.specs.Sound.{IsSound}
use Rattle.lls_store.specs.Worked.{IsAtRest}
use Rattle.lls_engine_tests.proofs.analyse.fill.Given as goal

abbrev pub invariant-loop-row : goal.invariant-loop-row
invariant-loop-row g l = record {
  tracked : g.S.Store.tracks l.store l.trail;
  sound : IsSound (g.S.Store.state l.store).live l.trail;
  at_rest : IsAtRest (g.S.Store.state l.store);
}
