use Rattle.std.proofs.Common.{ℕ, List, [], ◌∷◌, Option, refl, sym, ap, ◌∙◌, subst}
use Rattle.std.specs.Prelude.{ℤ, fold}
use Rattle.lls_lit.specs.Formula.{Cnf}
use Rattle.lls_prooflog.specs.Spent.{EachStep, IsGood, LogState, log_after, log_start}
use Rattle.lls_prooflog.specs.declared.step.Step.{Step}
use Rattle.lls_prooflog.specs.declared.step.Step.TheVariants.{Del}
use Rattle.lls_store.specs.Store.{StoreState}
use Rattle.lls_lemmas.specs.Indexed.{IsFound}
use Rattle.lls_lemmas.specs.Lemmas.{DeletesOne, GoesOnBy, HasClause, HasNoFault, HoldsForGood, LemmasState}
use Rattle.lls_lemmas.specs.Finding.{IsNeeded}
use Rattle.lls_lemmas.specs.Units.{IsAtRest}
use Rattle.lls_lemmas.proofs.Forced.{holds_for_good}
use Rattle.lls_lemmas.proofs.Found.{in_log, in_store}
use Rattle.lls_lemmas.proofs.Loaded.{engine_going}
use Rattle.lls_lemmas.proofs.Dropping.{found_without}
use Rattle.lls_lemmas.proofs.Logs.{each-then, well-one}
use Rattle.lls_lemmas.proofs.lemmas.Lemmas.delete.Goals as goal

-- the log goes on by the deletion
deleted : (P : LogState → Step → Type 0) (formula : Cnf) (old new : List Step) (lits : List ℤ) → ((state : LogState) (ids : List ℕ) → P state (Del ids)) → EachStep P (log_start formula) old → DeletesOne formula old new lits → EachStep P (log_start formula) new
deleted P formula old new lits any each d =
    each-then P formula old new each (subst (GoesOnBy P formula old) (sym d.deleted) (well-one P formula old (Del (d.was_live.id ∷ [])) (any (fold log_after (log_start formula) old) (d.was_live.id ∷ []))))

pub invariant_of-self-2 : goal.invariant_of-self-2
invariant_of-self-2 g c =
    let inside = c.self.inside in
    let i = c.self.invariant.1 in
    let e = c.in_ok-delete_clause.ensures in
    let formula = inside.formula.now in
    let old = inside.log.steps in
    let new = c.delete_clause.new.log.steps in
    let deletes = e.deletes c.args.lits.now c.in-Some.ensures.has in
    let store = g.S.Store.state c.delete_clause.new.store in (
      e.tracked,
      engine_going formula new store inside.trail inside.units.ids.items c.take.new.self inside.units.done inside.last inside.has_redundant inside.settled inside.refuted c.find.new.marks.vars
          c.if-self.false
          (deleted HasNoFault formula old new c.args.lits.now (λ state ids. refl) i.well deletes)
          (λ none. deleted IsGood formula old new c.args.lits.now (λ state ids. tt) (i.good none) deletes)
          (subst (λ (ids : List (Option ℕ)). IsAtRest formula new store inside.trail ids inside.units.done inside.last) c.as_slice-units.ensures.value e.rest)
          (subst (λ (s : StoreState). IsFound inside.trail.vars c.take.new.self s.live) (sym e.state) (found_without inside.trail.vars inside.index c.take.new.self (g.S.Store.state inside.store).live c.in-Some.number (i.found c.if-self.false) (c.take.ensures.linked) (c.take.ensures.keeps inside.trail.vars)))
          (λ is. e.settled (i.open_ c.if-self.false is))
          (c.find.ensures.vars ∙ c.hash_of-hash.ensures.vars ∙ i.marks_vars),
    )

pub is_needed-requires-clause-sound : goal.is_needed-requires-clause-sound
is_needed-requires-clause-sound g c = (c.self.invariant.1.rest c.if-self.false).has_units.sound

pub returns-in_default-clause-unknown : goal.returns-in_default-clause-unknown
returns-in_default-clause-unknown g c = λ _ has.
    let inside = c.self.inside in
    let rest = c.self.invariant.1.rest c.if-self.false in
    let known = subst (λ (x : LemmasState). HasClause x.formula x.steps c.args.lits.now) (sym c.self.view_is) has in
    let there = in_store inside.formula.now inside.log.steps (g.S.Store.state inside.store) inside.last c.args.lits.now rest.holds c.count-count.ensures.live known in
    c.in_default.ensures.none there.0 there.1

pub returns-then-is_needed-clause-reason : goal.returns-then-is_needed-clause-reason
returns-then-is_needed-clause-reason g c = λ _.
    let inside = c.self.inside in
    let rest = c.self.invariant.1.rest c.if-self.false in
    subst (λ (x : LemmasState). HasClause x.formula x.steps c.args.lits.now) c.self.view_is
    (in_log inside.formula.now inside.log.steps (g.S.Store.state inside.store) inside.last c.args.lits.now rest.holds c.count-count.ensures.live c.in-Some.number c.in-Some.ensures.has)

pub returns-then-is_needed-clause-for_good : goal.returns-then-is_needed-clause-for_good
returns-then-is_needed-clause-for_good g c = λ _ settled.
    let inside = c.self.inside in
    let i = c.self.invariant.1 in
    let store = g.S.Store.state inside.store in
    let P : List (Option ℕ) → Type 0 = λ ids. IsNeeded store.live inside.trail.entries ids c.in-Some.number in
    let needed = subst P c.as_slice-units.ensures.value (c.is_needed.ensures.needed c.if-is_needed.true) in
    let all_done = i.open_ c.if-self.false (ap (λ (x : LemmasState). x.settled) c.self.view_is ∙ settled) in
    subst (λ (x : LemmasState). HoldsForGood x.formula x.steps c.args.lits.now) c.self.view_is
    (holds_for_good inside.formula.now inside.log.steps store inside.trail inside.units.ids.items inside.units.done inside.last (i.rest c.if-self.false) c.count-count.ensures.live c.in-Some.number c.args.lits.now c.in-Some.ensures.has all_done needed)

pub returns-clause-gone : goal.returns-clause-gone
returns-clause-gone g c = λ _.
    subst (λ (x : LemmasState). DeletesOne x.formula x.steps c.delete_clause.new.log.steps c.args.lits.now) c.self.view_is (c.in_ok-delete_clause.ensures.deletes c.args.lits.now c.in-Some.ensures.has)
