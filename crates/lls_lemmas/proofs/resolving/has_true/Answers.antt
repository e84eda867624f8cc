use Rattle.std.proofs.Common.{◌≡◌, false, List, true, inl, inr, sym, ap, ◌∙◌, subst}
use Rattle.std.specs.Prelude.{ℤ, Contains}
use Rattle.std.specs.FinSet as set
use Rattle.std.proofs.lemmas.List.{take_all}
use Rattle.lls_lit.specs.Literal.{negation}
use Rattle.lls_lemmas.proofs.Listing.{Contains-take_more}
use Rattle.lls_analyse.proofs.Gathering.{nothing_there}
use Rattle.lls_lemmas.proofs.Opposed.{has_true-from, has_true-none}
use Rattle.lls_lemmas.proofs.resolving.has_true.Goals as goal

pub loop-lit-init : goal.loop-lit-init
loop-lit-init c = λ m inside negated. absurd (nothing_there m inside)

pub loop-lit-preserved : goal.loop-lit-preserved
loop-lit-preserved c = λ m inside negated. elim (Contains-take_more c.args.others.now c.loop-lit.lit-index c.lit-item.result m c.loop-lit-test.true c.lit-item.is inside) [
  | inl old ↦ c.loop-lit.invariant m old negated
  | inr same ↦ (
      let P : ℤ → Type 0 = λ x. Contains c.args.lits.now (negation x) in
      let marked = c.mark_all.ensures.all (negation c.lit-item.result) (subst P (sym same) negated) in
      let clash : false ≡ true = c.if-has.ensures ∙ ap (set.contains c.mark_all.new.marks.lits) c.negated.ensures ∙ marked in
      absurd cc)
]

pub returns-then-has-clause-answer : goal.returns-then-has-clause-answer
returns-then-has-clause-answer c =
    let negated = c.mark_all.ensures.of (negation c.lit-item.result) (ap (set.contains c.mark_all.new.marks.lits) (sym c.negated.ensures) ∙ sym c.if-has.ensures) in
    sym (has_true-from c.args.lits.now c.args.others.now c.lit-item.result (c.loop-lit.lit-index, c.loop-lit-test.true, sym c.lit-item.is) negated)

pub returns-clause-answer : goal.returns-clause-answer
returns-clause-answer c =
    let P : List ℤ → Type 0 = λ ls. (m : ℤ) → Contains ls m → Contains c.args.lits.now (negation m) → ⊥ in
    sym (has_true-none c.args.lits.now c.args.others.now (subst P (take_all c.loop-lit.lit-index c.args.others.now c.loop-lit-test.false) c.loop-lit.invariant))
