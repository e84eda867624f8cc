use Rattle.std.proofs.Common.{ℕ, length, sym, ◌∙◌, subst, arith}
use Rattle.lls_store.specs.Sound.{IsSound}
use Rattle.lls_store.specs.Store.{IsConflict, StoreState}
use Rattle.lls_lemmas.specs.Behind.{GivesClause}
use Rattle.lls_lemmas.specs.Units.{AreUnits, HaveUnits}
use Rattle.lls_lemmas.proofs.Beyond.{cut_back}
use Rattle.lls_lemmas.proofs.Tried.{are_units_on, decides_on, have_units_on, longer}
use Rattle.lls_lemmas.proofs.trying.try_settled.Goals as goal

pub explain-explained-requires-clause-sound : goal.explain-explained-requires-clause-sound
explain-explained-requires-clause-sound g c = subst (λ (s : StoreState). IsSound s.live c.assume_all-assumed.new.trail) (sym c.assume_all-assumed.ensures.state) c.assume_all-assumed.ensures.sound

pub explain-explained-requires-clause-are_units : goal.explain-explained-requires-clause-are_units
explain-explained-requires-clause-are_units g c =
    let a = c.assume_all-assumed in
    subst (λ (s : StoreState). AreUnits s.live a.new.trail.entries c.args.units.now) (sym a.ensures.state)
    (are_units_on (g.S.Store.state c.args.store.now).live c.args.trail.now a.new.trail c.args.lits.now c.args.units.now c.requires.ready.has_units.are_units a.ensures.assumes)

pub explain-explained-requires-clause-complete : goal.explain-explained-requires-clause-complete
explain-explained-requires-clause-complete g c =
    let a = c.assume_all-assumed in
    let base = c.args.trail.now in
    let P : ℕ → Type 0 = λ n. HaveUnits a.new.trail.entries c.args.units.now n in
    subst P (sym c.len-base.ensures.len) (have_units_on base a.new.trail c.args.lits.now c.args.units.now (length base.entries) (omega arith) c.requires.ready.has_units.complete a.ensures.assumes)

pub explain-explained-requires-clause-is_false : goal.explain-explained-requires-clause-is_false
explain-explained-requires-clause-is_false g c =
    let a = c.assume_all-assumed in
    λ n is. subst (λ (s : StoreState). IsConflict s.live a.new.trail n) (sym a.ensures.state) (a.ensures.is_false n is)

pub explain-explained-requires-clause-base : goal.explain-explained-requires-clause-base
explain-explained-requires-clause-base g c =
    let a = c.assume_all-assumed in
    omega (arith, c.len-base.ensures.len, longer c.args.trail.now a.new.trail c.args.lits.now a.ensures.assumes)

pub explain-explained-requires-clause-decided : goal.explain-explained-requires-clause-decided
explain-explained-requires-clause-decided g c =
    let a = c.assume_all-assumed in
    decides_on c.args.trail.now a.new.trail c.args.lits.now c.requires.ready.has_units.is_trail c.requires.ready.has_units.level a.ensures.assumes

pub back_to-requires-clause-sound : goal.back_to-requires-clause-sound
back_to-requires-clause-sound g c = subst (λ (s : StoreState). IsSound s.live c.assume_all-assumed.new.trail) (sym c.assume_all-assumed.ensures.state) c.assume_all-assumed.ensures.sound

pub returns-clause-gives : goal.returns-clause-gives
returns-clause-gives g c =
    let a = c.assume_all-assumed in
    λ is. subst (λ (s : StoreState). GivesClause s.live c.args.lits.now c.explain-explained.new.gathering.hints.items) a.ensures.state (c.explain-explained.ensures.gives is)

pub returns-clause-none : goal.returns-clause-none
returns-clause-none g c =
    let a = c.assume_all-assumed in
    λ is.
    record { trail = a.new.trail; is_trail = a.ensures.is_trail; is_open = a.ensures.is_open (c.explain-explained.ensures.closed is) }

pub returns-clause-trail : goal.returns-clause-trail
returns-clause-trail g c =
    let a = c.assume_all-assumed in
    c.back_to.ensures.cut ∙ cut_back c.args.trail.now a.new.trail c.args.lits.now c.requires.ready.has_units.is_trail c.requires.ready.has_units.level a.ensures.assumes
