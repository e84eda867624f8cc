use Rattle.std.proofs.Common.{◌≡◌, ◌+◌, ◌&&◌, Bool, true, false, length, get_or, ◌∙◌, refl, ap, sym, arith, below_more}
use Rattle.std.proofs.lemmas.Bool.{and_from, and_left}
use Rattle.lls_open.specs.Classes.{is_of, class_number}
use Rattle.lls_open.specs.Decoding.{class_value}
use Rattle.lls_open.proofs.Ranges.{any_none, any_at}
use Rattle.lls_open.proofs.decoding.is_chosen.Goals as goal
use Rattle.lls_open.proofs.decoding.is_chosen.Goals.{else-contains-via-then-contains+else-values-cells, else-contains-via-else-contains}

and_right : (b c : Bool) → c ≡ false → (b && c) ≡ false
and_right true c e = e
and_right false c e = refl

pub returns-then-values-cells : goal.returns-then-values-cells
returns-then-values-cells c =
    let cells : length c.items-cells.result.now ≡ length c.args.problem.now.posed.cells = ap length (c.items-cells.ensures ∙ ap (λ f. f.cells) (c.behind-problem.view_is ∙ c.posed.ensures.value)) in
    sym (any_at (λ k. is_of (class_number c.args.classes.now k) c.args.nine && class_value c.args.problem.now c.args.values.now k) 0 (length c.args.classes.now) c.loop-k.k (omega arith) (omega (arith, c.loop-k-test.true))
    (and_from _ _ (sym c.contains.ensures ∙ c.if-contains.true) (ap (λ n. get_or c.args.values.now (n + c.loop-k.k) false) (sym cells) ∙ c.if-values-cells.true)))

pub loop-k-preserved : goal.loop-k-preserved
loop-k-preserved c =
    let cells : length c.items-cells.result.now ≡ length c.args.problem.now.posed.cells = ap length (c.items-cells.ensures ∙ ap (λ f. f.cells) (c.behind-problem.view_is ∙ c.posed.ensures.value)) in
    below_more _ _ c.loop-k.invariant (elim c.else-contains.branch [
      | else-contains-via-then-contains+else-values-cells w ↦
          and_right (is_of (class_number c.args.classes.now c.loop-k.k) c.args.nine) _ (ap (λ n. get_or c.args.values.now (n + c.loop-k.k) false) (sym cells) ∙ w.if-values-cells.false)
      | else-contains-via-else-contains w ↦ and_left _ _ (sym c.contains.ensures ∙ w.if-contains.false)
    ])

pub returns : goal.returns
returns c =
    sym (any_none (λ k. is_of (class_number c.args.classes.now k) c.args.nine && class_value c.args.problem.now c.args.values.now k) 0 (length c.args.classes.now)
    (λ k low high. c.loop-k.invariant k (omega (arith, high, c.loop-k-test.false))))
