use Rattle.std.proofs.Common.{◌≡◌, ℕ, true, List, Option, length, refl, sym, ap, ◌∙◌, subst}
use Rattle.lls_store.specs.Trail.{TrailState}
use Rattle.lls_store.specs.Sound.{IsSound}
use Rattle.lls_store.specs.Store.{StoreState}
use Rattle.std.specs.FinSet as set
use Rattle.std.specs.Prelude.{ℤ, Ok}
use Rattle.std.specs.List.{list_all}
use Rattle.lls_prooflog.specs.Spent.{IsGood}
use Rattle.lls_lemmas.specs.Behind.{GivesClause, HoldsLive}
use Rattle.lls_lemmas.specs.Closing.{is_id_hint}
use Rattle.lls_lemmas.specs.Indexed.{set_hash}
use Rattle.lls_lemmas.specs.Lemmas.{GoesOnWell, HasNoFault, IsNotImplied, LemmasState}
use Rattle.lls_lemmas.specs.Units.{HasUnits}
use Rattle.lls_lemmas.proofs.Addable.{not_implied}
use Rattle.lls_lemmas.proofs.Indexing.{pushed_found}
use Rattle.lls_lemmas.proofs.Loaded.{engine_added, engine_same}
use Rattle.lls_lemmas.proofs.Logs.{adds_by_propagation, each-then, id_hints, well-by_propagation}
use Rattle.lls_lemmas.proofs.lemmas.Lemmas.add_implied.Goals as goal

-- hints that lead to the lemma lead to it where it is added
given : (old new : StoreState) (lits gathered hints : List ℤ) → new ≡ old → hints ≡ gathered → GivesClause old.live lits gathered → GivesClause new.live lits hints
given old new lits gathered hints same as_slice gives = subst (λ (s : StoreState). GivesClause s.live lits hints) (sym same) (subst (λ (hs : List ℤ). GivesClause old.live lits hs) (sym as_slice) gives)

pub try_clause-requires-clause-ready : goal.try_clause-requires-clause-ready
try_clause-requires-clause-ready g c =
    let i = c.self.invariant.1 in
    let going = ap (λ (x : LemmasState). x.refuted) c.self.view_is ∙ c.requires.going in
    let settled = i.open_ going (ap (λ (x : LemmasState). x.settled) c.self.view_is ∙ c.requires.settled) in
    let units = (i.rest going).has_units in
    let P : List (Option ℕ) → Type 0 = λ ids. HasUnits (g.S.Store.state c.self.inside.store) c.self.inside.trail ids (length c.self.inside.trail.entries) in
    record {
      has_units = subst P (sym c.as_slice.ensures.value) (subst (λ (done : ℕ). HasUnits (g.S.Store.state c.self.inside.store) c.self.inside.trail c.self.inside.units.ids.items done) settled.all_done units);
      closed = settled.closed;
      marks_vars = i.marks_vars;
    }

pub push_step-requires-clause-adds : goal.push_step-requires-clause-adds
push_step-requires-clause-adds g c =
    let implied = c.in_ok-implied.was ∙ ap Ok c.if-not-implied.false in
    adds_by_propagation (g.S.Store.state c.try_clause.new.store).live c.args.lits.now c.as_slice-2.result.now (given (g.S.Store.state c.self.inside.store) (g.S.Store.state c.try_clause.new.store) c.args.lits.now c.try_clause.new.gathering.hints.items c.as_slice-2.result.now c.try_clause.ensures.state c.as_slice-2.ensures.value (c.try_clause.ensures.gives implied))

pub push_step-requires-clause-in_range : goal.push_step-requires-clause-in_range
push_step-requires-clause-in_range g c =
    let implied = c.in_ok-implied.was ∙ ap Ok c.if-not-implied.false in
    (id_hints c.as_slice-2.result.now (subst (λ (hs : List ℤ). list_all is_id_hint hs ≡ true) (sym c.as_slice-2.ensures.value) (c.try_clause.ensures.in_range implied))).0

pub push_step-requires-clause-sound : goal.push_step-requires-clause-sound
push_step-requires-clause-sound g c =
    let rest = c.self.invariant.1.rest (ap (λ (x : LemmasState). x.refuted) c.self.view_is ∙ c.requires.going) in
    let e = c.try_clause.ensures in
    subst (λ (t : TrailState). IsSound (g.S.Store.state c.try_clause.new.store).live t) (sym e.trail) (subst (λ (s : StoreState). IsSound s.live c.self.inside.trail) (sym e.state) rest.has_units.sound)

pub invariant_of-self-2 : goal.invariant_of-self-2
invariant_of-self-2 g c =
    let inside = c.self.inside in
    let going = ap (λ (x : LemmasState). x.refuted) c.self.view_is ∙ c.requires.going in
    let i = c.self.invariant.1 in
    let implied = c.in_ok-implied.was ∙ ap Ok c.if-not-implied.false in
    let good = c.push_step.ensures.good (given (g.S.Store.state c.self.inside.store) (g.S.Store.state c.try_clause.new.store) c.args.lits.now c.try_clause.new.gathering.hints.items c.as_slice-2.result.now c.try_clause.ensures.state c.as_slice-2.ensures.value (c.try_clause.ensures.gives implied)) (subst (λ (hs : List ℤ). list_all is_id_hint hs ≡ true) (sym c.as_slice-2.ensures.value) (c.try_clause.ensures.in_range implied)) in
    let t = c.try_clause.ensures in (
      c.push_step.ensures.tracked,
      engine_added inside.formula.now c.push_step.new.log.steps (g.S.Store.state inside.store) (g.S.Store.state c.try_clause.new.store) (g.S.Store.state c.push_step.new.store) inside.trail c.try_clause.new.trail inside.units.ids.items c.put.new.self inside.units.done c.push_step.new.last c.in_ok-push_step.field-0 c.hash_of-hash.new.marks.vars c.args.lits.now
          inside.has_redundant inside.refuted going
          (each-then HasNoFault inside.formula.now inside.log.steps c.push_step.new.log.steps i.well (well-by_propagation inside.formula.now inside.log.steps c.push_step.new.log.steps good))
          (λ none. each-then IsGood inside.formula.now inside.log.steps c.push_step.new.log.steps (i.good none) good)
          (i.rest going).has_units t.trail t.state c.in_ok-push_step.ensures.state c.push_step.ensures.holds
          (pushed_found inside.trail.vars inside.index c.put.new.self (g.S.Store.state inside.store) (g.S.Store.state c.try_clause.new.store) (g.S.Store.state c.push_step.new.store) c.in_ok-push_step.field-0 c.hash_of-hash.result c.count.result c.args.lits.now (i.found going) c.put.ensures.linked c.put.ensures.keeps c.in_ok-put.ensures.puts t.state c.in_ok-push_step.ensures.state c.count.ensures.count (c.hash_of-hash.ensures.hash ∙ ap (λ n. set_hash n (set.from_list c.args.lits.now)) (t.vars ∙ i.marks_vars)) c.requires.no_tautology)
          (c.hash_of-hash.ensures.vars ∙ t.vars ∙ i.marks_vars),
    )

pub invariant_of-self-in_err-put : goal.invariant_of-self-in_err-put
invariant_of-self-in_err-put g c =
    let inside = c.self.inside in
    let i = c.self.invariant.1 in
    let going = ap (λ (x : LemmasState). x.refuted) c.self.view_is ∙ c.requires.going in
    let t = c.try_clause.ensures in (
      t.tracked,
      engine_same inside.formula.now inside.log.steps inside.log.steps (g.S.Store.state inside.store) (g.S.Store.state c.try_clause.new.store) inside.trail c.try_clause.new.trail inside.units.ids.items inside.index c.put.new.self inside.units.done inside.last inside.last inside.has_redundant inside.settled inside.refuted inside.gathering.marks.vars c.hash_of-hash.new.marks.vars
          going i refl t.state t.trail (subst (λ (s : StoreState). HoldsLive inside.formula.now inside.log.steps s inside.last) (sym t.state) (i.rest going).holds) c.put.ensures.linked (λ clause _. c.put.ensures.keeps inside.trail.vars clause)
          (c.hash_of-hash.ensures.vars ∙ t.vars ∙ i.marks_vars),
    )

pub invariant_of-self-in_err-push_step : goal.invariant_of-self-in_err-push_step
invariant_of-self-in_err-push_step g c =
    let inside = c.self.inside in
    let i = c.self.invariant.1 in
    let going = ap (λ (x : LemmasState). x.refuted) c.self.view_is ∙ c.requires.going in
    let e = c.in_err-push_step.ensures in
    let t = c.try_clause.ensures in (
      c.push_step.ensures.tracked,
      engine_same inside.formula.now inside.log.steps c.push_step.new.log.steps (g.S.Store.state inside.store) (g.S.Store.state c.push_step.new.store) inside.trail c.try_clause.new.trail inside.units.ids.items inside.index c.put.new.self inside.units.done inside.last c.push_step.new.last inside.has_redundant inside.settled inside.refuted inside.gathering.marks.vars c.hash_of-hash.new.marks.vars
          going i e.err_steps (e.err ∙ t.state) t.trail c.push_step.ensures.holds c.put.ensures.linked (λ clause _. c.put.ensures.keeps inside.trail.vars clause)
          (c.hash_of-hash.ensures.vars ∙ t.vars ∙ i.marks_vars),
    )

pub returns-then-not-implied-clause-not_implied : goal.returns-then-not-implied-clause-not_implied
returns-then-not-implied-clause-not_implied g c = λ _.
    let inside = c.self.inside in
    let rest = c.self.invariant.1.rest (ap (λ (x : LemmasState). x.refuted) c.self.view_is ∙ c.requires.going) in
    subst (λ (x : LemmasState). IsNotImplied x.formula x.steps c.args.lits.now) c.self.view_is
    (not_implied inside.formula.now inside.log.steps (g.S.Store.state inside.store) inside.last rest.holds c.args.lits.now (c.try_clause.ensures.none (c.in_ok-implied.was ∙ ap Ok c.if-not-implied.true)))

pub returns-clause-well : goal.returns-clause-well
returns-clause-well g c =
    let implied = c.in_ok-implied.was ∙ ap Ok c.if-not-implied.false in
    let good = c.push_step.ensures.good (given (g.S.Store.state c.self.inside.store) (g.S.Store.state c.try_clause.new.store) c.args.lits.now c.try_clause.new.gathering.hints.items c.as_slice-2.result.now c.try_clause.ensures.state c.as_slice-2.ensures.value (c.try_clause.ensures.gives implied)) (subst (λ (hs : List ℤ). list_all is_id_hint hs ≡ true) (sym c.as_slice-2.ensures.value) (c.try_clause.ensures.in_range implied)) in
    let inside = c.self.inside in
    subst (λ (x : LemmasState). GoesOnWell x.formula x.steps c.push_step.new.log.steps) c.self.view_is (well-by_propagation inside.formula.now inside.log.steps c.push_step.new.log.steps good)
