use Rattle.std.proofs.Common.{◌∙◌, ◌+◌, sym, ap, subst, refl}
use Rattle.std.specs.FinSet as set
use Rattle.lls_lit.specs.Formula.{is_literal_of}
use Rattle.lls_lit.specs.Marked.{Marked}
use Rattle.lls_lemmas.proofs.Carried.{least_of}
use Rattle.lls_lemmas.proofs.Listing.{all_pass}
use Rattle.lls_lemmas.proofs.Tautologies.{AreApart, apart_more, apart_start, beside, none_apart}
use Rattle.lls_lemmas.proofs.tautology.is_tautology.Goals as goal

pub loop-lit-init : goal.loop-lit-init
loop-lit-init c = record {
  apart = subst (λ (m : Marked). AreApart c.args.lits.now 0 m.lits) (sym c.clear.ensures) (apart_start c.args.lits.now);
  vars = refl;
}

pub loop-lit-preserved : goal.loop-lit-preserved
loop-lit-preserved c =
    let lits = c.args.lits.now in
    let x = c.lit-item.result in
    let marked = c.loop-lit.marks.lits in
    let low = least_of c.args.marks.now.vars x (all_pass (is_literal_of c.args.marks.now.vars) lits x c.requires (c.loop-lit.lit-index, c.loop-lit-test.true, sym c.lit-item.is)) in
    record {
      apart = subst (λ (m : Marked). AreApart lits (c.loop-lit.lit-index + 1) m.lits) (sym c.put.ensures)
          (apart_more lits c.loop-lit.lit-index x marked c.loop-lit-test.true c.lit-item.is low (ap (set.contains marked) (sym c.negated.ensures) ∙ sym c.if-has.ensures) c.loop-lit.invariant.apart);
      vars = ap (λ (m : Marked). m.vars) c.put.ensures ∙ c.loop-lit.invariant.vars;
    }

pub returns-then-has-clause-answer : goal.returns-then-has-clause-answer
returns-then-has-clause-answer c =
    let marked = c.loop-lit.marks.lits in
    sym (beside c.args.lits.now c.loop-lit.lit-index c.lit-item.result marked c.loop-lit-test.true c.lit-item.is (ap (set.contains marked) (sym c.negated.ensures) ∙ sym c.if-has.ensures) c.loop-lit.invariant.apart)

pub returns-clause-answer : goal.returns-clause-answer
returns-clause-answer c = sym (none_apart c.args.lits.now c.loop-lit.lit-index c.loop-lit.marks.lits c.loop-lit-test.false c.loop-lit.invariant.apart)
