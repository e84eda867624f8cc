use Rattle.std.proofs.Common.{◌≡◌, ℕ, true, List, [], ◌∷◌, Option, None, length, refl, sym, ap, ◌∙◌, subst}
use Rattle.std.specs.FinSet as set
use Rattle.std.specs.Prelude.{ℤ, Contains, slice_get, Ok}
use Rattle.lls_store.specs.Trail.{TrailState}
use Rattle.lls_store.specs.Sound.{IsSound}
use Rattle.lls_store.specs.Store.{StoreState}
use Rattle.lls_lemmas.specs.Behind.{HoldsLive}
use Rattle.lls_lemmas.specs.Indexed.{set_hash}
use Rattle.lls_lemmas.specs.Lemmas.{HasNoFault, IsNotAddable, LemmasState}
use Rattle.lls_lemmas.specs.Units.{HasUnits}
use Rattle.lls_lemmas.proofs.Addable.{empty_not_addable, not_addable}
use Rattle.lls_lemmas.proofs.Indexing.{found_kept, pushed_found}
use Rattle.lls_lemmas.proofs.Loaded.{engine_added, engine_same}
use Rattle.lls_lemmas.proofs.Logs.{each-then}
use Rattle.lls_lemmas.proofs.lemmas.Lemmas.add_redundant.Goals as goal

no_first : (lits : List ℤ) → None ≡ slice_get lits 0 → lits ≡ []
no_first [] none = refl
no_first (l ∷ ls) none = cc

pub returns-in_default-clause-not_addable : goal.returns-in_default-clause-not_addable
returns-in_default-clause-not_addable g c = λ _.
    let inside = c.self.inside in
    let i = c.self.invariant.1 in
    let going = ap (λ (x : LemmasState). x.refuted) c.self.view_is ∙ c.requires.going in
    let settled = i.open_ going (ap (λ (x : LemmasState). x.settled) c.self.view_is ∙ c.requires.settled) in
    let rest = i.rest going in
    let none = no_first c.args.lits.now c.in_default.ensures.value in
    let never = empty_not_addable inside.formula.now inside.log.steps (g.S.Store.state inside.store) inside.last rest.holds inside.trail rest.has_units.is_trail settled.closed in
    subst (λ (x : LemmasState). IsNotAddable x.formula x.steps c.args.lits.now) c.self.view_is
    (subst (λ (ls : List ℤ). IsNotAddable inside.formula.now inside.log.steps ls) (sym none) never)

pub try_pivot-requires-clause-ready : goal.try_pivot-requires-clause-ready
try_pivot-requires-clause-ready g c =
    let inside = c.self.inside in
    let i = c.self.invariant.1 in
    let going = ap (λ (x : LemmasState). x.refuted) c.self.view_is ∙ c.requires.going in
    let settled = i.open_ going (ap (λ (x : LemmasState). x.settled) c.self.view_is ∙ c.requires.settled) in
    let P : List (Option ℕ) → Type 0 = λ ids. HasUnits (g.S.Store.state inside.store) inside.trail ids (length inside.trail.entries) in
    record {
      has_units = subst P (sym c.as_slice.ensures.value) (subst (λ (done : ℕ). HasUnits (g.S.Store.state inside.store) inside.trail inside.units.ids.items done) settled.all_done (i.rest going).has_units);
      closed = settled.closed;
      marks_vars = i.marks_vars;
    }

pub returns-then-not-by_pivot-clause-not_addable : goal.returns-then-not-by_pivot-clause-not_addable
returns-then-not-by_pivot-clause-not_addable g c = λ _.
    let inside = c.self.inside in
    let rest = c.self.invariant.1.rest (ap (λ (x : LemmasState). x.refuted) c.self.view_is ∙ c.requires.going) in
    subst (λ (x : LemmasState). IsNotAddable x.formula x.steps c.args.lits.now) c.self.view_is
    (not_addable inside.formula.now inside.log.steps (g.S.Store.state inside.store) inside.last rest.holds c.count-count.ensures.live c.args.lits.now c.in-Some.pivot.now (sym c.in-Some.ensures.value)
    (c.try_pivot.ensures.opposed (c.in_ok-by_pivot.was ∙ ap Ok c.if-not-by_pivot.true)))

pub push_step-requires-clause-sound : goal.push_step-requires-clause-sound
push_step-requires-clause-sound g c =
    let rest = c.self.invariant.1.rest (ap (λ (x : LemmasState). x.refuted) c.self.view_is ∙ c.requires.going) in
    let e = c.try_pivot.ensures in
    subst (λ (t : TrailState). IsSound (g.S.Store.state c.try_pivot.new.store).live t) (sym e.trail) (subst (λ (s : StoreState). IsSound s.live c.self.inside.trail) (sym e.state) rest.has_units.sound)

pub invariant_of-self-2 : goal.invariant_of-self-2
invariant_of-self-2 g c =
    let inside = c.self.inside in
    let i = c.self.invariant.1 in
    let going = ap (λ (x : LemmasState). x.refuted) c.self.view_is ∙ c.requires.going in
    let t = c.try_pivot.ensures in (
      c.push_step.ensures.tracked,
      engine_added inside.formula.now c.push_step.new.log.steps (g.S.Store.state inside.store) (g.S.Store.state c.try_pivot.new.store) (g.S.Store.state c.push_step.new.store) inside.trail c.try_pivot.new.trail inside.units.ids.items c.put.new.self inside.units.done c.push_step.new.last c.in_ok-push_step.field-0 c.hash_of-hash.new.marks.vars c.args.lits.now
          true inside.refuted going
          (each-then HasNoFault inside.formula.now inside.log.steps c.push_step.new.log.steps i.well c.push_step.ensures.well)
          (λ none. absurd cc)
          (i.rest going).has_units t.trail t.state c.in_ok-push_step.ensures.state c.push_step.ensures.holds
          (pushed_found inside.trail.vars c.drop_dead.new.self c.put.new.self (g.S.Store.state inside.store) (g.S.Store.state c.try_pivot.new.store) (g.S.Store.state c.push_step.new.store) c.in_ok-push_step.field-0 c.hash_of-hash.result c.count.result c.args.lits.now (found_kept inside.trail.vars inside.index c.drop_dead.new.self (g.S.Store.state inside.store).live (i.found going) c.drop_dead.ensures.linked (c.drop_dead.ensures.keeps inside.trail.vars)) c.put.ensures.linked c.put.ensures.keeps c.in_ok-put.ensures.puts t.state c.in_ok-push_step.ensures.state c.count.ensures.count (c.hash_of-hash.ensures.hash ∙ ap (λ n. set_hash n (set.from_list c.args.lits.now)) (t.vars ∙ i.marks_vars)) c.requires.no_tautology)
          (c.hash_of-hash.ensures.vars ∙ t.vars ∙ i.marks_vars),
    )

pub invariant_of-self : goal.invariant_of-self
invariant_of-self g c =
    let inside = c.self.inside in
    let i = c.self.invariant.1 in
    let going = ap (λ (x : LemmasState). x.refuted) c.self.view_is ∙ c.requires.going in
    let d = c.drop_dead.ensures in (
      c.self.invariant.0,
      engine_same inside.formula.now inside.log.steps inside.log.steps (g.S.Store.state inside.store) (g.S.Store.state inside.store) inside.trail inside.trail inside.units.ids.items inside.index c.drop_dead.new.self inside.units.done inside.last inside.last inside.has_redundant inside.settled inside.refuted inside.gathering.marks.vars inside.gathering.marks.vars
          going i refl refl refl (i.rest going).holds d.linked (d.keeps inside.trail.vars)
          i.marks_vars,
    )

pub invariant_of-self-in_err-by_pivot : goal.invariant_of-self-in_err-by_pivot
invariant_of-self-in_err-by_pivot g c =
    let inside = c.self.inside in
    let i = c.self.invariant.1 in
    let going = ap (λ (x : LemmasState). x.refuted) c.self.view_is ∙ c.requires.going in
    let d = c.drop_dead.ensures in
    let t = c.try_pivot.ensures in (
      t.tracked,
      engine_same inside.formula.now inside.log.steps inside.log.steps (g.S.Store.state inside.store) (g.S.Store.state c.try_pivot.new.store) inside.trail c.try_pivot.new.trail inside.units.ids.items inside.index c.drop_dead.new.self inside.units.done inside.last inside.last inside.has_redundant inside.settled inside.refuted inside.gathering.marks.vars c.try_pivot.new.gathering.marks.vars
          going i refl t.state t.trail (subst (λ (s : StoreState). HoldsLive inside.formula.now inside.log.steps s inside.last) (sym t.state) (i.rest going).holds) d.linked (d.keeps inside.trail.vars)
          (t.vars ∙ i.marks_vars),
    )

pub invariant_of-self-then-not-by_pivot : goal.invariant_of-self-then-not-by_pivot
invariant_of-self-then-not-by_pivot g c =
    let inside = c.self.inside in
    let i = c.self.invariant.1 in
    let going = ap (λ (x : LemmasState). x.refuted) c.self.view_is ∙ c.requires.going in
    let d = c.drop_dead.ensures in
    let t = c.try_pivot.ensures in (
      t.tracked,
      engine_same inside.formula.now inside.log.steps inside.log.steps (g.S.Store.state inside.store) (g.S.Store.state c.try_pivot.new.store) inside.trail c.try_pivot.new.trail inside.units.ids.items inside.index c.drop_dead.new.self inside.units.done inside.last inside.last inside.has_redundant inside.settled inside.refuted inside.gathering.marks.vars c.try_pivot.new.gathering.marks.vars
          going i refl t.state t.trail (subst (λ (s : StoreState). HoldsLive inside.formula.now inside.log.steps s inside.last) (sym t.state) (i.rest going).holds) d.linked (d.keeps inside.trail.vars)
          (t.vars ∙ i.marks_vars),
    )

pub invariant_of-self-in_err-put : goal.invariant_of-self-in_err-put
invariant_of-self-in_err-put g c =
    let inside = c.self.inside in
    let i = c.self.invariant.1 in
    let going = ap (λ (x : LemmasState). x.refuted) c.self.view_is ∙ c.requires.going in
    let d = c.drop_dead.ensures in
    let t = c.try_pivot.ensures in (
      t.tracked,
      engine_same inside.formula.now inside.log.steps inside.log.steps (g.S.Store.state inside.store) (g.S.Store.state c.try_pivot.new.store) inside.trail c.try_pivot.new.trail inside.units.ids.items inside.index c.put.new.self inside.units.done inside.last inside.last inside.has_redundant inside.settled inside.refuted inside.gathering.marks.vars c.hash_of-hash.new.marks.vars
          going i refl t.state t.trail (subst (λ (s : StoreState). HoldsLive inside.formula.now inside.log.steps s inside.last) (sym t.state) (i.rest going).holds) c.put.ensures.linked (λ clause inside_live x. c.put.ensures.keeps inside.trail.vars clause (d.keeps inside.trail.vars clause inside_live x))
          (c.hash_of-hash.ensures.vars ∙ t.vars ∙ i.marks_vars),
    )

pub invariant_of-self-in_err-push_step : goal.invariant_of-self-in_err-push_step
invariant_of-self-in_err-push_step g c =
    let inside = c.self.inside in
    let i = c.self.invariant.1 in
    let going = ap (λ (x : LemmasState). x.refuted) c.self.view_is ∙ c.requires.going in
    let d = c.drop_dead.ensures in
    let t = c.try_pivot.ensures in
    let e = c.in_err-push_step.ensures in (
      c.push_step.ensures.tracked,
      engine_same inside.formula.now inside.log.steps c.push_step.new.log.steps (g.S.Store.state inside.store) (g.S.Store.state c.push_step.new.store) inside.trail c.try_pivot.new.trail inside.units.ids.items inside.index c.put.new.self inside.units.done inside.last c.push_step.new.last inside.has_redundant inside.settled inside.refuted inside.gathering.marks.vars c.hash_of-hash.new.marks.vars
          going i e.err_steps (e.err ∙ t.state) t.trail c.push_step.ensures.holds c.put.ensures.linked (λ clause inside_live x. c.put.ensures.keeps inside.trail.vars clause (d.keeps inside.trail.vars clause inside_live x))
          (c.hash_of-hash.ensures.vars ∙ t.vars ∙ i.marks_vars),
    )

pub try_pivot-requires-clause-all : goal.try_pivot-requires-clause-all
try_pivot-requires-clause-all g c = λ clause live.
    let inside = c.self.inside in
    let i = c.self.invariant.1 in
    let going = ap (λ (x : LemmasState). x.refuted) c.self.view_is ∙ c.requires.going in
    let one = c.drop_dead.ensures.keeps inside.trail.vars clause live ((i.found going).indexes.each clause live) in
    let P : List ℕ → Type 0 = λ numbers. Contains numbers clause.number in
    subst P (sym c.as_slice-2.ensures.value) one.listed
