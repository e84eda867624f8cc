use Rattle.std.proofs.Common.{◌≡◌, refl, sym, ap, ◌∙◌}
use Rattle.std.specs.Prelude.{ℤ, List, Contains}
use Rattle.std.specs.FinSet as set
use Rattle.std.specs.Ordering.{int_cmp}
use Rattle.lls_store.specs.Clauses.{Literals}
use Rattle.lls_store.proofs.Sets.{Contains-from_IsIn, IsIn-from_Contains}
use Rattle.lls_lemmas.proofs.Without.{sets_same}
use Rattle.lls_lemmas.proofs.finding.are_same.Goals as goal

-- lists of the same literals have the same ones
pub in_other : (a b : List ℤ) (l : ℤ) → set.from_list {R = int_cmp} a ≡ set.from_list b → Contains a l → Contains b l
in_other a b l same inside = Contains-from_IsIn b l (ap (λ (s : Literals). set.contains s l) (sym same) ∙ IsIn-from_Contains a l inside)

pub returns-then-not-are_marked-clause-differ : goal.returns-then-not-are_marked-clause-differ
returns-then-not-are_marked-clause-differ c = λ _ same. c.if-not-are_marked.ensures.some refl (λ l inside. c.mark_all.ensures.all l (in_other c.args.b.now c.args.a.now l (sym same) inside))

pub returns-clause-same : goal.returns-clause-same
returns-clause-same c = λ is.
    sets_same c.args.a.now c.args.b.now (λ l inside. c.mark_all-2.ensures.of l (c.are_marked-2.ensures.all is l inside)) (λ l inside. c.mark_all.ensures.of l (c.if-not-are_marked.ensures.all refl l inside))

pub returns-clause-differ : goal.returns-clause-differ
returns-clause-differ c = λ is same. c.are_marked-2.ensures.some is (λ l inside. c.mark_all-2.ensures.all l (in_other c.args.a.now c.args.b.now l same inside))
