use Rattle.std.proofs.Common.{subst, sym, ◌∙◌, inl, inr, rules}
use Rattle.std.specs.Prelude.{ℤ, List, Contains}
use Rattle.std.proofs.lemmas.List.{take_all}
use Rattle.lls_store.specs.Trail.{HasNegated}
use Rattle.lls_store.specs.Clauses.{IsIn}
use Rattle.lls_lemmas.proofs.Listing.{Contains-take_more}
use Rattle.lls_lemmas.proofs.marking.mark_false.Goals as goal

pub loop-lit-preserved : goal.loop-lit-preserved
loop-lit-preserved c = record {
  marked = λ m inside false_. elim (Contains-take_more c.args.lits.now c.loop-lit.lit-index c.lit-item.result m c.loop-lit-test.true c.lit-item.is inside) [
    | inl old ↦ c.in_ok-mark_if_false.ensures.kept m (c.loop-lit.invariant.marked m old false_)
    | inr same ↦ (
        let P : ℤ → Type 0 = λ l. HasNegated c.args.trail.now.entries l → IsIn c.mark_if_false.new.marks.lits l in
        subst P same c.in_ok-mark_if_false.ensures.marked false_)
  ];
  kept = λ m inside. c.in_ok-mark_if_false.ensures.kept m (c.loop-lit.invariant.kept m inside);
  listed = search rules;
  vars = c.in_ok-mark_if_false.ensures.vars ∙ c.loop-lit.invariant.vars;
}

pub returns-clause-marked : goal.returns-clause-marked
returns-clause-marked c = λ m inside false_.
    c.loop-lit.invariant.marked m (let P : List ℤ → Type 0 = λ ls. Contains ls m in subst P (sym (take_all c.loop-lit.lit-index c.args.lits.now c.loop-lit-test.false)) inside) false_
