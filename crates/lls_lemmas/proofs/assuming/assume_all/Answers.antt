use Rattle.std.proofs.Common.{◌∷◌, [], List, inl, inr, sym, ◌∙◌, subst}
use Rattle.std.specs.Prelude.{ℤ, Contains}
use Rattle.std.proofs.lemmas.List.{take_all}
use Rattle.lls_lit.specs.Literal.{negation}
use Rattle.lls_store.specs.Trail.{HasNegated}
use Rattle.lls_store.specs.Closed.{IsClosed}
use Rattle.lls_store.specs.Sound.{IsSound}
use Rattle.lls_store.specs.Store.{IsConflict, StoreState}
use Rattle.lls_lemmas.proofs.Beyond.{assumes_then, stays_true}
use Rattle.lls_lemmas.proofs.Listing.{Contains-take_more}
use Rattle.lls_lemmas.proofs.assuming.assume_all.Goals as goal

pub assume-requires-clause-sound : goal.assume-requires-clause-sound
assume-requires-clause-sound g c = subst (λ (s : StoreState). IsSound s.live c.loop-lit.trail) (sym c.loop-lit.invariant.state) c.loop-lit.invariant.sound

pub assume-requires-clause-closed : goal.assume-requires-clause-closed
assume-requires-clause-closed g c = subst (λ (s : StoreState). IsClosed s.live c.loop-lit.trail) (sym c.loop-lit.invariant.state) c.loop-lit.invariant.closed

pub returns-in-False-clause-is_false : goal.returns-in-False-clause-is_false
returns-in-False-clause-is_false g c = λ n is. subst (λ (s : StoreState). IsConflict s.live c.assume.new.trail n) c.loop-lit.invariant.state (c.assume.ensures.is_false n (c.in-False.is ∙ is))

pub returns-in-False-clause-assumes : goal.returns-in-False-clause-assumes
returns-in-False-clause-assumes g c = assumes_then c.args.trail.now c.loop-lit.trail c.assume.new.trail c.args.lits.now c.lit-item.result c.loop-lit.invariant.assumes c.assume.ensures.assumes (c.loop-lit.lit-index, c.loop-lit-test.true, sym c.lit-item.is)

pub returns-in-False-clause-sound : goal.returns-in-False-clause-sound
returns-in-False-clause-sound g c = subst (λ (s : StoreState). IsSound s.live c.assume.new.trail) c.loop-lit.invariant.state c.assume.ensures.sound

pub returns-in-True-clause-is_true : goal.returns-in-True-clause-is_true
returns-in-True-clause-is_true g c = λ l is.
    let true_ = c.assume.ensures.is_true l (c.in-True.is ∙ is) in
    (subst (λ (m : ℤ). Contains c.args.lits.now m) (sym true_.0) (c.loop-lit.lit-index, c.loop-lit-test.true, sym c.lit-item.is), true_.1)

pub returns-in-True-clause-assumes : goal.returns-in-True-clause-assumes
returns-in-True-clause-assumes g c = assumes_then c.args.trail.now c.loop-lit.trail c.assume.new.trail c.args.lits.now c.lit-item.result c.loop-lit.invariant.assumes c.assume.ensures.assumes (c.loop-lit.lit-index, c.loop-lit-test.true, sym c.lit-item.is)

pub returns-in-True-clause-sound : goal.returns-in-True-clause-sound
returns-in-True-clause-sound g c = subst (λ (s : StoreState). IsSound s.live c.assume.new.trail) c.loop-lit.invariant.state c.assume.ensures.sound

pub loop-lit-preserved : goal.loop-lit-preserved
loop-lit-preserved g c =
    let i = c.loop-lit.invariant in
    let e = c.assume.ensures in
    let new = c.assume.new.trail in
    record {
      state = e.state ∙ i.state;
      settled = e.settled c.in-Open.is;
      sound = subst (λ (s : StoreState). IsSound s.live new) i.state e.sound;
      closed = subst (λ (s : StoreState). IsClosed s.live new) i.state (e.closed c.in-Open.is);
      assumes = assumes_then c.args.trail.now c.loop-lit.trail new c.args.lits.now c.lit-item.result i.assumes e.assumes (c.loop-lit.lit-index, c.loop-lit-test.true, sym c.lit-item.is);
      all_false = λ m inside. elim (Contains-take_more c.args.lits.now c.loop-lit.lit-index c.lit-item.result m c.loop-lit-test.true c.lit-item.is inside) [
        | inl old ↦ stays_true c.loop-lit.trail new (c.lit-item.result ∷ []) (negation m) e.assumes (i.all_false m old)
        | inr same ↦ subst (λ (l : ℤ). HasNegated new.entries l) same (e.is_open c.in-Open.is)
      ];
      is_trail = e.is_trail;
    }

pub returns-clause-is_open : goal.returns-clause-is_open
returns-clause-is_open g c = λ is. record {
  closed = c.loop-lit.invariant.closed;
  all_false = λ m inside. c.loop-lit.invariant.all_false m (let P : List ℤ → Type 0 = λ ls. Contains ls m in subst P (sym (take_all c.loop-lit.lit-index c.args.lits.now c.loop-lit-test.false)) inside);
}
