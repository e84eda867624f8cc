use Rattle.std.proofs.Common.{◌≡◌, [], ℕ, false, List, Option, refl, sym, ap, ◌∙◌, subst}
use Rattle.lls_lit.specs.Marked.{Marked}
use Rattle.lls_prooflog.specs.Log.{Logged}
use Rattle.lls_prooflog.specs.Spent.{IsGood}
use Rattle.lls_prooflog.specs.declared.step.Step.{Step}
use Rattle.lls_store.specs.Trail.{TrailState}
use Rattle.lls_lemmas.specs.Indexed.{Indexes}
use Rattle.lls_lemmas.specs.Lemmas.{DropsTautology, GoesOnBy, HasNoFault, KeepsPlain}
use Rattle.lls_lemmas.specs.Units.{IsAtRest}
use Rattle.lls_lemmas.proofs.Dropping.{drops_good, drops_well}
use Rattle.lls_lemmas.proofs.Loaded.{engine_going, rest_start}
use Rattle.lls_lemmas.proofs.Logs.{each-then, goes-weaker, well-then}
use Rattle.lls_lemmas.proofs.lemmas.Lemmas.new.Goals as goal

pub drop_tautologies-requires-clause-rest : goal.drop_tautologies-requires-clause-rest
drop_tautologies-requires-clause-rest g c =
    let e = c.in_ok-load.ensures in
    let store = g.S.Store.state c.load.new.store in
    let ids = c.as_slice.result.now in
    subst (λ (steps : List Step). IsAtRest c.args.formula.now steps store c.in_ok-trail.trail ids 0 c.len-last.result) (sym (ap (λ (l : Logged). l.steps) c.new-log.ensures))
    (rest_start c.args.formula.now store c.in_ok-trail.trail c.args.vars ids c.len-last.result c.in_ok-trail.ensures c.len-len.ensures.kept e.holds e.vars (c.as_slice.ensures.value ∙ c.in_ok-units.ensures.ids) c.len-last.ensures.len)

pub invariant_of-lemmas : goal.invariant_of-lemmas
invariant_of-lemmas g c =
    let e = c.in_ok-drop_tautologies.ensures in
    let formula = c.args.formula.now in
    let steps = c.drop_tautologies.new.log.steps in
    let store = g.S.Store.state c.drop_tautologies.new.store in
    let trail = c.in_ok-trail.trail in
    let drops = subst (λ (old : List Step). GoesOnBy DropsTautology formula old steps) (ap (λ (l : Logged). l.steps) c.new-log.ensures) e.drops in
    let marked = ap (λ (m : Marked). m.vars) c.in_ok-marks.ensures in
    let trail_vars : trail.vars ≡ c.args.vars = ap (λ (t : TrailState). t.vars) c.in_ok-trail.ensures in
    let vars = c.drop_tautologies.ensures.vars ∙ marked in
    let P : List (Option ℕ) → Type 0 = λ ids. IsAtRest formula steps store trail ids 0 c.len-last.result in
    let Q : ℕ → Type 0 = λ done. IsAtRest formula steps store trail c.in_ok-units.units.ids.items done c.len-last.result in
    let I : ℕ → Type 0 = λ n. Indexes n c.index_live.new.index store.live in (
      e.tracked,
      engine_going formula steps store trail c.in_ok-units.units.ids.items c.index_live.new.index c.in_ok-units.units.done c.len-last.result false false false c.index_live.new.marks.vars refl
          (each-then HasNoFault formula [] steps tt (goes-weaker DropsTautology HasNoFault formula [] steps drops_well drops))
          (λ _. each-then IsGood formula [] steps tt (goes-weaker DropsTautology IsGood formula [] steps drops_good drops))
          (subst Q (sym c.in_ok-units.ensures.done) (subst P c.as_slice.ensures.value e.rest))
          (record { indexes = subst I (vars ∙ sym trail_vars) c.in_ok-index_live.ensures.indexes; plain = e.plain })
          (λ is. absurd cc)
          (c.index_live.ensures.vars ∙ vars ∙ sym trail_vars),
    )

pub returns-clause-keeps : goal.returns-clause-keeps
returns-clause-keeps g c = λ id clause found plain.
    let P : List Step → Type 0 = λ old. KeepsPlain c.args.formula.now old c.drop_tautologies.new.log.steps in
    let dropped = subst P (ap (λ (l : Logged). l.steps) c.new-log.ensures) c.in_ok-drop_tautologies.ensures.keeps in
    c.settle.ensures.keeps id clause (dropped id clause found plain)

pub returns-clause-begins : goal.returns-clause-begins
returns-clause-begins g c = record {
  before = c.drop_tautologies.new.log.steps;
  drops = subst (λ (old : List Step). GoesOnBy DropsTautology c.args.formula.now old c.drop_tautologies.new.log.steps) (ap (λ (l : Logged). l.steps) c.new-log.ensures) c.in_ok-drop_tautologies.ensures.drops;
  units = c.settle.ensures.units;
}

pub returns-clause-well : goal.returns-clause-well
returns-clause-well g c =
    let formula = c.args.formula.now in
    let steps = c.drop_tautologies.new.log.steps in
    let drops = subst (λ (old : List Step). GoesOnBy DropsTautology formula old steps) (ap (λ (l : Logged). l.steps) c.new-log.ensures) c.in_ok-drop_tautologies.ensures.drops in
    well-then HasNoFault formula [] steps c.settle.new.self.steps (goes-weaker DropsTautology HasNoFault formula [] steps drops_well drops) c.settle.ensures.well
