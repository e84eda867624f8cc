use Rattle.std.proofs.Common.{◌≡◌, ℕ, List, true, false, sym, ap, ◌∙◌, subst}
use Rattle.std.specs.Prelude.{Ok}
use Rattle.lls_prooflog.specs.Spent.{IsGood}
use Rattle.lls_store.specs.Clauses.{LiveClause}
use Rattle.lls_lemmas.specs.declared.index.Index.{Index}
use Rattle.lls_lemmas.specs.Indexed.{IsFound}
use Rattle.lls_lemmas.specs.Lemmas.{AddsUnit, AddsUnits, GoesOnWell, HasNoFault, LemmasState}
use Rattle.lls_lemmas.proofs.Loaded.{engine_going}
use Rattle.lls_lemmas.proofs.Logs.{each-then, well-by_propagation, well-none}
use Rattle.lls_lemmas.proofs.lemmas.Lemmas.settle.Goals as goal

-- where the trail has as many variables
found_of : (vars vars' : ℕ) (index : Index) (live : List LiveClause) → vars' ≡ vars → IsFound vars index live → IsFound vars' index live
found_of vars vars' index live same found = subst (λ v. IsFound v index live) (sym same) found

pub invariant_of-self : goal.invariant_of-self
invariant_of-self g c =
    let i = c.self.invariant.1 in
    let e = c.settle.ensures in
    let formula = c.self.inside.formula.now in
    let old = c.self.inside.log.steps in
    let new = c.settle.new.log.steps in (
      e.tracked,
      engine_going formula new (g.S.Store.state c.settle.new.store) c.settle.new.trail c.settle.new.units.ids.items c.settle.new.index c.settle.new.units.done c.settle.new.last c.self.inside.has_redundant c.self.inside.settled c.self.inside.refuted c.settle.new.gathering.marks.vars
          c.if-self.false
          (each-then HasNoFault formula old new i.well (well-by_propagation formula old new e.grows.well))
          (λ none. each-then IsGood formula old new (i.good none) e.grows.well)
          (e.rest (λ is. let went = sym c.in_err-settled.was ∙ is in cc))
          (found_of c.self.inside.trail.vars c.settle.new.trail.vars c.settle.new.index (g.S.Store.state c.settle.new.store).live e.trail_vars e.found)
          (λ is. let clash : false ≡ true = sym c.if-self-2.false ∙ is in absurd cc)
          e.vars,
    )

pub invariant_of-self-in-Open : goal.invariant_of-self-in-Open
invariant_of-self-in-Open g c =
    let i = c.self.invariant.1 in
    let e = c.settle.ensures in
    let formula = c.self.inside.formula.now in
    let old = c.self.inside.log.steps in
    let new = c.settle.new.log.steps in
    let went = c.in_ok-settled.was ∙ ap Ok c.in-Open.is in (
      e.tracked,
      engine_going formula new (g.S.Store.state c.settle.new.store) c.settle.new.trail c.settle.new.units.ids.items c.settle.new.index c.settle.new.units.done c.settle.new.last c.self.inside.has_redundant true c.self.inside.refuted c.settle.new.gathering.marks.vars
          c.if-self.false
          (each-then HasNoFault formula old new i.well (well-by_propagation formula old new e.grows.well))
          (λ none. each-then IsGood formula old new (i.good none) e.grows.well)
          (e.rest (λ is. let clash = sym went ∙ is in cc))
          (found_of c.self.inside.trail.vars c.settle.new.trail.vars c.settle.new.index (g.S.Store.state c.settle.new.store).live e.trail_vars e.found)
          (λ _. e.is_open went)
          e.vars,
    )

pub invariant_of-self-in-Refuted : goal.invariant_of-self-in-Refuted
invariant_of-self-in-Refuted g c =
    let i = c.self.invariant.1 in
    let e = c.settle.ensures in
    let formula = c.self.inside.formula.now in
    let old = c.self.inside.log.steps in
    let new = c.settle.new.log.steps in (
      e.tracked,
      record {
        well = each-then HasNoFault formula old new i.well (well-by_propagation formula old new e.grows.well);
        good = λ none. each-then IsGood formula old new (i.good none) e.grows.well;
        rising = e.rising;
        ends = λ _. e.ends (c.in_ok-settled.was ∙ ap Ok c.in-Refuted.is);
        unsatisfiable = λ _. e.unsatisfiable (c.in_ok-settled.was ∙ ap Ok c.in-Refuted.is);
        rest = λ is. absurd cc;
        found = λ is. absurd cc;
        open_ = λ is settled. absurd cc;
        marks_vars = e.vars;
      },
    )

pub returns-in_err-settled-clause-well : goal.returns-in_err-settled-clause-well
returns-in_err-settled-clause-well g c =
    subst (λ (x : LemmasState). GoesOnWell x.formula x.steps c.settle.new.log.steps) c.self.view_is (well-by_propagation c.self.inside.formula.now c.self.inside.log.steps c.settle.new.log.steps c.settle.ensures.grows.well)

pub returns-in-Open-clause-well : goal.returns-in-Open-clause-well
returns-in-Open-clause-well g c =
    subst (λ (x : LemmasState). GoesOnWell x.formula x.steps c.settle.new.log.steps) c.self.view_is (well-by_propagation c.self.inside.formula.now c.self.inside.log.steps c.settle.new.log.steps c.settle.ensures.grows.well)

pub returns-in-Refuted-clause-well : goal.returns-in-Refuted-clause-well
returns-in-Refuted-clause-well g c =
    subst (λ (x : LemmasState). GoesOnWell x.formula x.steps c.settle.new.log.steps) c.self.view_is (well-by_propagation c.self.inside.formula.now c.self.inside.log.steps c.settle.new.log.steps c.settle.ensures.grows.well)

pub returns-in_err-settled-clause-units : goal.returns-in_err-settled-clause-units
returns-in_err-settled-clause-units g c = subst (λ (x : LemmasState). AddsUnits x.formula x.steps c.settle.new.log.steps) c.self.view_is c.settle.ensures.grows.units

pub returns-in-Open-clause-units : goal.returns-in-Open-clause-units
returns-in-Open-clause-units g c = subst (λ (x : LemmasState). AddsUnits x.formula x.steps c.settle.new.log.steps) c.self.view_is c.settle.ensures.grows.units

pub returns-in-Refuted-clause-units : goal.returns-in-Refuted-clause-units
returns-in-Refuted-clause-units g c = subst (λ (x : LemmasState). AddsUnits x.formula x.steps c.settle.new.log.steps) c.self.view_is c.settle.ensures.grows.units

pub returns-then-self-clause-units : goal.returns-then-self-clause-units
returns-then-self-clause-units g c = well-none AddsUnit c.args.self.now.formula c.args.self.now.steps

pub returns-then-self-2-clause-units : goal.returns-then-self-2-clause-units
returns-then-self-2-clause-units g c = well-none AddsUnit c.args.self.now.formula c.args.self.now.steps
