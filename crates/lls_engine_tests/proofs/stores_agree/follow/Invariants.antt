use Rattle.std.proofs.Common.{◌≡◌}
use Rattle.lls_store.specs.Sound.{IsSound}
use Rattle.lls_store.specs.Worked.{IsResting}
use Rattle.lls_engine_tests.proofs.stores_agree.follow.Given as goal

abbrev pub invariant-loop : goal.invariant-loop
invariant-loop g l = record {
  one_vars : l.one.trail.vars ≡ 5;
  one_tracked : g.A.Store.tracks l.one.store l.one.trail;
  one_sound : IsSound (g.A.Store.state l.one.store).live l.one.trail;
  one_resting : IsResting (g.A.Store.state l.one.store) l.one.last;
  other_vars : l.other.trail.vars ≡ 5;
  other_tracked : g.B.Store.tracks l.other.store l.other.trail;
  other_sound : IsSound (g.B.Store.state l.other.store).live l.other.trail;
  other_resting : IsResting (g.B.Store.state l.other.store) l.other.last;
}
