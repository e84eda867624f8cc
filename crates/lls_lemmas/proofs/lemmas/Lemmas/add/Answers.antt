use Rattle.std.proofs.Common.{◌≡◌, ◌≢◌, List, rules, refl, sym, ap, ◌∙◌, subst, inl, inr}
use Rattle.std.specs.Prelude.{Ok}
use Rattle.lls_lit.specs.Formula.{Clause, Cnf}
use Rattle.lls_prooflog.specs.Spent.{LogState}
use Rattle.lls_prooflog.specs.declared.step.Step.{Step}
use Rattle.lls_lemmas.specs.Behind.{PushesLemma}
use Rattle.lls_lemmas.specs.Lemmas.{AddsLemma, AddsUnit, AddsUnits, GoesOnBy, HasNoFault, IsAtEnd, IsNotAddable, IsNotImplied, LemmasState}
use Rattle.lls_lemmas.specs.declared.answers.Added.TheVariants.{NotImplied}
use Rattle.lls_lemmas.proofs.Logs.{adds_between, well-none, well-then}
use Rattle.lls_lemmas.proofs.lemmas.Lemmas.add.Goals as goal

-- two calls, one after the other
two : (P : LogState → Step → Type 0) (a b s n : LemmasState) → b ≡ a → GoesOnBy P b.formula b.steps s.steps → s.formula ≡ b.formula → GoesOnBy P s.formula s.steps n.steps → GoesOnBy P a.formula a.steps n.steps
two P a b s n same first formula second =
    let Q : LemmasState → Type 0 = λ x. GoesOnBy P x.formula x.steps s.steps in
    let R : Cnf → Type 0 = λ f. GoesOnBy P f s.steps n.steps in
    well-then P a.formula a.steps s.steps n.steps (subst Q same first) (subst R (formula ∙ ap (λ (x : LemmasState). x.formula) same) second)

-- and a third
three : (P : LogState → Step → Type 0) (a b s n m : LemmasState) → b ≡ a → GoesOnBy P b.formula b.steps s.steps → s.formula ≡ b.formula → GoesOnBy P s.formula s.steps n.steps → n.formula ≡ s.formula → GoesOnBy P n.formula n.steps m.steps → GoesOnBy P a.formula a.steps m.steps
three P a b s n m same first formula second formula' third =
    let R : Cnf → Type 0 = λ f. GoesOnBy P f n.steps m.steps in
    well-then P a.formula a.steps n.steps m.steps (two P a b s n same first formula second) (subst R (formula' ∙ formula ∙ ap (λ (x : LemmasState). x.formula) same) third)

-- the second of which adds the lemma
between : (a b s n m : LemmasState) (lits : Clause) → b ≡ a → AddsUnits b.formula b.steps s.steps → s.formula ≡ b.formula → PushesLemma s.steps n.steps lits → n.formula ≡ s.formula → AddsUnits n.formula n.steps m.steps → AddsLemma a.formula a.steps m.steps lits
between a b s n m lits same first formula pushes formula' third =
    let Q : LemmasState → Type 0 = λ x. AddsUnits x.formula x.steps s.steps in
    let R : Cnf → Type 0 = λ f. AddsUnits f n.steps m.steps in
    adds_between a.formula a.steps s.steps n.steps m.steps lits (subst Q same first) pushes (subst R (formula' ∙ formula ∙ ap (λ (x : LemmasState). x.formula) same) third)

pub returns-then-self-clause-refuted : goal.returns-then-self-clause-refuted
returns-then-self-clause-refuted g c =
    let i = c.self.invariant.1 in
    λ _. subst IsAtEnd c.self.view_is (record { refuted = c.if-self.true; ends = i.ends c.if-self.true; unsatisfiable = i.unsatisfiable c.if-self.true })

pub returns-in_err-added-clause-well : goal.returns-in_err-added-clause-well
returns-in_err-added-clause-well g c = two HasNoFault c.args.self.now c.has_both.new.self c.settle.new.self c.add_either.new.self c.has_both.ensures.same c.settle.ensures.well c.settle.ensures.formula c.add_either.ensures.well

pub returns-in_err-settle-2-clause-well : goal.returns-in_err-settle-2-clause-well
returns-in_err-settle-2-clause-well g c = three HasNoFault c.args.self.now c.has_both.new.self c.settle.new.self c.add_either.new.self c.settle-2.new.self c.has_both.ensures.same c.settle.ensures.well c.settle.ensures.formula c.add_either.ensures.well c.add_either.ensures.formula c.settle-2.ensures.well

pub returns-then-is_refuted-2-clause-well : goal.returns-then-is_refuted-2-clause-well
returns-then-is_refuted-2-clause-well g c = three HasNoFault c.args.self.now c.has_both.new.self c.settle.new.self c.add_either.new.self c.settle-2.new.self c.has_both.ensures.same c.settle.ensures.well c.settle.ensures.formula c.add_either.ensures.well c.add_either.ensures.formula c.settle-2.ensures.well

pub returns-clause-well : goal.returns-clause-well
returns-clause-well g c = three HasNoFault c.args.self.now c.has_both.new.self c.settle.new.self c.add_either.new.self c.settle-2.new.self c.has_both.ensures.same c.settle.ensures.well c.settle.ensures.formula c.add_either.ensures.well c.add_either.ensures.formula c.settle-2.ensures.well

-- unit clauses, where nothing else came
only_units : (a b s : LemmasState) (now : List Step) → b ≡ a → AddsUnits b.formula b.steps s.steps → now ≡ s.steps → AddsUnits a.formula a.steps now
only_units a b s now same first now_is =
    subst (λ (steps : List Step). AddsUnits a.formula a.steps steps) (sym now_is) (subst (λ (x : LemmasState). AddsUnits x.formula x.steps s.steps) same first)

pub returns-then-self-clause-adds : goal.returns-then-self-clause-adds
returns-then-self-clause-adds g c = inl (well-none AddsUnit c.args.self.now.formula c.args.self.now.steps)

pub returns-in_err-settle-clause-adds : goal.returns-in_err-settle-clause-adds
returns-in_err-settle-clause-adds g c = inl (only_units c.args.self.now c.has_both.new.self c.settle.new.self c.settle.new.self.steps c.has_both.ensures.same c.settle.ensures.units refl)

pub returns-then-is_refuted-clause-adds : goal.returns-then-is_refuted-clause-adds
returns-then-is_refuted-clause-adds g c = inl (only_units c.args.self.now c.has_both.new.self c.settle.new.self c.settle.new.self.steps c.has_both.ensures.same c.settle.ensures.units refl)

pub returns-in_err-added-clause-adds : goal.returns-in_err-added-clause-adds
returns-in_err-added-clause-adds g c = inl (only_units c.args.self.now c.has_both.new.self c.settle.new.self c.add_either.new.self.steps c.has_both.ensures.same c.settle.ensures.units c.in_err-added.ensures.err)

pub returns-then-eq-clause-adds : goal.returns-then-eq-clause-adds
returns-then-eq-clause-adds g c =
    let added : c.in_ok-added.added ≡ NotImplied = search rules in
    inl (only_units c.args.self.now c.has_both.new.self c.settle.new.self c.add_either.new.self.steps c.has_both.ensures.same c.settle.ensures.units (ap (λ (x : LemmasState). x.steps) (c.add_either.ensures.stays (c.in_ok-added.was ∙ ap Ok added))))

pub returns-in_err-settle-2-clause-adds : goal.returns-in_err-settle-2-clause-adds
returns-in_err-settle-2-clause-adds g c =
    let other : c.in_ok-added.added ≢ NotImplied = search rules in
    inr (between c.args.self.now c.has_both.new.self c.settle.new.self c.add_either.new.self c.settle-2.new.self c.args.lits.now c.has_both.ensures.same c.settle.ensures.units c.settle.ensures.formula (c.in_ok-added.ensures.pushes other) c.add_either.ensures.formula c.settle-2.ensures.units)

pub returns-then-is_refuted-2-clause-adds : goal.returns-then-is_refuted-2-clause-adds
returns-then-is_refuted-2-clause-adds g c =
    let other : c.in_ok-added.added ≢ NotImplied = search rules in
    inr (between c.args.self.now c.has_both.new.self c.settle.new.self c.add_either.new.self c.settle-2.new.self c.args.lits.now c.has_both.ensures.same c.settle.ensures.units c.settle.ensures.formula (c.in_ok-added.ensures.pushes other) c.add_either.ensures.formula c.settle-2.ensures.units)

pub returns-clause-adds : goal.returns-clause-adds
returns-clause-adds g c =
    let other : c.in_ok-added.added ≢ NotImplied = search rules in
    inr (between c.args.self.now c.has_both.new.self c.settle.new.self c.add_either.new.self c.settle-2.new.self c.args.lits.now c.has_both.ensures.same c.settle.ensures.units c.settle.ensures.formula (c.in_ok-added.ensures.pushes other) c.add_either.ensures.formula c.settle-2.ensures.units)

pub returns-then-eq-clause-not_implied : goal.returns-then-eq-clause-not_implied
returns-then-eq-clause-not_implied g c = λ _.
    let lits = c.args.lits.now in
    let added : c.in_ok-added.added ≡ NotImplied = search rules in
    let went = c.in_ok-added.was ∙ ap Ok added in
    let e = c.add_either.ensures in
    let P : LemmasState → Type 0 = λ x. IsNotAddable c.settle.new.self.formula x.steps lits in
    let Q : Cnf → Type 0 = λ f. IsNotAddable f c.add_either.new.self.steps lits in
    let R : LemmasState → Type 0 = λ x. IsNotImplied c.settle.new.self.formula x.steps lits in
    let S : Cnf → Type 0 = λ f. IsNotImplied f c.add_either.new.self.steps lits in
    let formula = c.settle.ensures.formula ∙ ap (λ (x : LemmasState). x.formula) c.has_both.ensures.same in record {
      adds = only_units c.args.self.now c.has_both.new.self c.settle.new.self c.add_either.new.self.steps c.has_both.ensures.same c.settle.ensures.units (ap (λ (x : LemmasState). x.steps) (e.stays went));
      not_implied = subst S formula (subst R (sym (e.stays went)) (e.not_implied went));
      not_addable = subst Q formula (subst P (sym (e.stays went)) (e.not_addable went));
      stays = λ settled. e.stays went ∙ c.settle.ensures.settled (ap (λ (x : LemmasState). x.settled) c.has_both.ensures.same ∙ settled) ∙ c.has_both.ensures.same;
      none_redundant = ap (λ (x : LemmasState). x.has_redundant) (e.stays went) ∙ c.settle.ensures.none_redundant ∙ ap (λ (x : LemmasState). x.has_redundant) c.has_both.ensures.same;
      settled = search rules;
      going = search rules;
    }

pub returns-clause-implied : goal.returns-clause-implied
returns-clause-implied g c = λ is.
    let other : c.in_ok-added.added ≢ NotImplied = search rules in
    record {
      adds = between c.args.self.now c.has_both.new.self c.settle.new.self c.add_either.new.self c.settle-2.new.self c.args.lits.now c.has_both.ensures.same c.settle.ensures.units c.settle.ensures.formula (c.in_ok-added.ensures.pushes other) c.add_either.ensures.formula c.settle-2.ensures.units;
      live = search rules;
      none_redundant = search rules;
      settled = search rules;
      going = search rules;
    }

pub returns-clause-redundant : goal.returns-clause-redundant
returns-clause-redundant g c = λ is.
    let other : c.in_ok-added.added ≢ NotImplied = search rules in
    record {
      adds = between c.args.self.now c.has_both.new.self c.settle.new.self c.add_either.new.self c.settle-2.new.self c.args.lits.now c.has_both.ensures.same c.settle.ensures.units c.settle.ensures.formula (c.in_ok-added.ensures.pushes other) c.add_either.ensures.formula c.settle-2.ensures.units;
      live = search rules;
      not_given = search rules;
      told = search rules;
      settled = search rules;
      going = search rules;
    }
