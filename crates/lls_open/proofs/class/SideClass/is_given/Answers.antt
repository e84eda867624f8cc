use Rattle.std.proofs.Common.{◌≡◌, ◌&&◌, Bool, true, false, ◌∙◌, refl, sym, arith, below_more}
use Rattle.std.proofs.lemmas.Bool.{and_left}
use Rattle.lls_open.specs.Classes.{is_of}
use Rattle.lls_open.proofs.Giving.{gives-at, gives-none}
use Rattle.lls_open.proofs.class.SideClass.is_given.Goals as goal
use Rattle.lls_open.proofs.class.SideClass.is_given.Goals.{else-contains-via-then-contains+else-next, else-contains-via-else-contains}

and_right : (b c : Bool) → c ≡ false → (b && c) ≡ false
and_right true c e = e
and_right false c e = refl

pub returns-then-next : goal.returns-then-next
returns-then-next c =
    sym (gives-at c.args.rule.now c.args.self c.loop-nine.nine c.loop-nine-test.true (sym c.contains.ensures ∙ c.if-contains.true) (sym c.next.ensures.answers ∙ c.if-next.true))

pub loop-nine-preserved : goal.loop-nine-preserved
loop-nine-preserved c =
    below_more _ _ c.loop-nine.invariant (elim c.else-contains.branch [
      | else-contains-via-then-contains+else-next w ↦ and_right (is_of c.args.self c.loop-nine.nine) _ (sym w.next.ensures.answers ∙ w.if-next.false)
      | else-contains-via-else-contains w ↦ and_left _ _ (sym c.contains.ensures ∙ w.if-contains.false)
    ])

pub returns : goal.returns
returns c = sym (gives-none c.args.rule.now c.args.self (λ n h. c.loop-nine.invariant n (omega (arith, h, c.loop-nine-test.false))))
