use Rattle.std.proofs.Common.{◌≡◌, ◌<◌, inl, inr, ℕ, get_or, set, length, length-set, sym, ◌∙◌, subst, arith}
use Rattle.std.proofs.lemmas.Bool.Decides.{eqb_tells}
use Rattle.std.proofs.lemmas.List.{get_or-set_other, get_or-set_same, get_or_default}
use Rattle.lls_solver.specs.Deletion.{HasForgotten}
use Rattle.lls_solver.specs.Searching.{SearcherState}
use Rattle.lls_crew.proofs.forgetting.remove.Goals as goal

pub loop-k-preserved : goal.loop-k-preserved
loop-k-preserved c =
    let k = c.loop-k.k in
    let marks = c.args.marks.now in
    let first = c.args.searchers.now in
    let now = c.loop-k.searchers in
    let new = c.remove.new.self in
    let rest = c.loop-k.invariant.rest in
    record {
      many = length-set now k new ∙ c.loop-k.invariant.many;
      done = λ j d lt.
          elim (eqb_tells j k) [
            | inl t ↦
                let in_first : k < length first = omega (arith, c.loop-k-test.true, c.loop-k.invariant.many, c.loop-k.auto.k-end) in
                let was : get_or now k c.index-searchers-k.result ≡ get_or first k d = rest k c.index-searchers-k.result (omega arith) ∙ get_or_default first k c.index-searchers-k.result d in_first in
                let at : HasForgotten marks (get_or first k d) new = subst (λ (s : SearcherState). HasForgotten marks s new) was c.remove.ensures in
                subst (λ (i : ℕ). HasForgotten marks (get_or first i d) (get_or (set now k new) i d)) (sym t.1)
                (subst (HasForgotten marks (get_or first k d)) (sym (get_or-set_same now k new d (omega (arith, in_first, c.loop-k.invariant.many)))) at)
            | inr t ↦ subst (HasForgotten marks (get_or first j d)) (sym (get_or-set_other now k j new d t.1)) (c.loop-k.invariant.done j d (omega (arith, lt, t.1)))
          ];
      rest = λ j d le. get_or-set_other now k j new d (λ same. omega (arith, same, le)) ∙ rest j d (omega (arith, le));
    }
