use Rattle.std.proofs.Common.{◌≡◌, take}
use Rattle.std.specs.Prelude.{ℤ, Contains}
use Rattle.lls_store.specs.Trail.{HasNegated, IsTrail}
use Rattle.lls_store.specs.Closed.{IsClosed}
use Rattle.lls_store.specs.Sound.{IsSound}
use Rattle.lls_lemmas.specs.Assumed.{Assumes}
use Rattle.lls_lemmas.proofs.assuming.assume_all.Given as goal

abbrev pub invariant-loop-lit : goal.invariant-loop-lit
invariant-loop-lit g l = record {
  state : g.S.Store.state l.store ≡ g.S.Store.state l.initial.store;
  settled : g.S.Store.settled l.store l.trail;
  sound : IsSound (g.S.Store.state l.initial.store).live l.trail;
  closed : IsClosed (g.S.Store.state l.initial.store).live l.trail;
  assumes : Assumes l.initial.trail l.lits l.trail;
  all_false : (m : ℤ) → Contains (take l.lit-index l.lits) m → HasNegated l.trail.entries m;
  is_trail : IsTrail l.trail;
}
