use Rattle.std.proofs.Common.{◌+◌, List, refl, sym, ap, ◌∙◌, subst, take}
use Rattle.std.specs.Prelude.{ℤ, Contains}
use Rattle.std.proofs.lemmas.List.{take_all}
use Rattle.lls_lit.specs.Marked.{Marked}
use Rattle.lls_store.specs.Clauses.{IsIn}
use Rattle.lls_lemmas.proofs.Listing.{first_more, marked_more}
use Rattle.lls_lemmas.proofs.Tautologies.{apart_start}
use Rattle.lls_lemmas.proofs.finding.mark_all.Goals as goal

pub loop-lit-init : goal.loop-lit-init
loop-lit-init c = record {
  of = subst (λ (x : Marked). (m : ℤ) → IsIn x.lits m → Contains (take 0 c.args.lits.now) m) (sym c.clear.ensures) (apart_start c.args.lits.now).of;
  all = subst (λ (x : Marked). (m : ℤ) → Contains (take 0 c.args.lits.now) m → IsIn x.lits m) (sym c.clear.ensures) (apart_start c.args.lits.now).marks;
  vars = refl;
}

pub loop-lit-preserved : goal.loop-lit-preserved
loop-lit-preserved c = record {
  of = subst (λ (x : Marked). (m : ℤ) → IsIn x.lits m → Contains (take (c.loop-lit.lit-index + 1) c.args.lits.now) m) (sym c.put.ensures)
      (λ m inside. first_more c.args.lits.now c.loop-lit.lit-index c.lit-item.result m c.loop-lit.marks.lits c.loop-lit-test.true c.lit-item.is c.loop-lit.invariant.of inside);
  all = subst (λ (x : Marked). (m : ℤ) → Contains (take (c.loop-lit.lit-index + 1) c.args.lits.now) m → IsIn x.lits m) (sym c.put.ensures)
      (λ m inside. marked_more c.args.lits.now c.loop-lit.lit-index c.lit-item.result m c.loop-lit.marks.lits c.loop-lit-test.true c.lit-item.is c.loop-lit.invariant.all inside);
  vars = ap (λ (x : Marked). x.vars) c.put.ensures ∙ c.loop-lit.invariant.vars;
}

pub returns-clause-of : goal.returns-clause-of
returns-clause-of c = subst (λ (ls : List ℤ). (m : ℤ) → IsIn c.loop-lit.marks.lits m → Contains ls m) (take_all c.loop-lit.lit-index c.args.lits.now c.loop-lit-test.false) c.loop-lit.invariant.of

pub returns-clause-all : goal.returns-clause-all
returns-clause-all c = subst (λ (ls : List ℤ). (m : ℤ) → Contains ls m → IsIn c.loop-lit.marks.lits m) (take_all c.loop-lit.lit-index c.args.lits.now c.loop-lit-test.false) c.loop-lit.invariant.all
