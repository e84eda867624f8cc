use Rattle.std.proofs.Common.{◌≡◌, ◌<◌, ◌≤◌, Bool, true, List, refl, subst, sym, ◌∙◌, arith}
use Rattle.std.proofs.lemmas.Bool.{false≢true}
use Rattle.lls_lit.specs.Literal.{IsVariable}
use Rattle.lls_lit.specs.declared.var.TheConstants.Var.{MOST}
use Rattle.lls_order.specs.Order.{IsEmpty, IsGreatest}
use Rattle.lls_order.specs.Queue.{IsCursor, rank_of, stands_in}
use Rattle.lls_order.proofs.Cursor.{IsCursor-at_lists, IsCursor-set, empty_at_none, greatest_at_cursor, is_there, some_answer}
use Rattle.lls_order.proofs.Parts.{AreParts-with}
use Rattle.lls_order.proofs.order.Order.pop_greatest.Goals as goal

pub returns-then-self-eq0-clause-none : goal.returns-then-self-eq0-clause-none
returns-then-self-eq0-clause-none c =
    let m = c.self.inside in
    let at = c.first_inside-self-inside.result in
    let is_cursor = IsCursor-at_lists _ _ _ _ _ at c.self.invariant.activity_each c.deref.ensures.value c.deref-2.ensures.value c.first_inside-self-inside.ensures.cursor in
    let at_none = subst (λ n. IsCursor (rank_of m.activities.items) m.vars m.inside.items n) c.if-self-eq0.true is_cursor in
    (λ none. subst IsEmpty c.self.view_is (empty_at_none m.vars m.activities.items m.inside.items m.top c.self.invariant.few c.self.invariant.inside_each at_none), λ empty. refl)

pub invariant_of-self-2 : goal.invariant_of-self-2
invariant_of-self-2 c =
    let m = c.self.inside in
    let at = c.first_inside-self-inside.result in
    let is_cursor = IsCursor-at_lists _ _ _ _ _ at c.self.invariant.activity_each c.deref.ensures.value c.deref-2.ensures.value c.first_inside-self-inside.ensures.cursor in
    AreParts-with m.vars m.activities.items m.inside.items m.previous.items m.next.items m.cursor m.top c.self.invariant at _ at
    (IsCursor-set (rank_of m.activities.items) m.vars m.inside.items at _ (omega (arith, c.if-self-eq0.false)) is_cursor)

pub returns-clause-greatest : goal.returns-clause-greatest
returns-clause-greatest c =
    let m = c.self.inside in
    let at = c.first_inside-self-inside.result in
    let some : 0 < at = omega (arith, c.if-self-eq0.false) in
    let is_cursor = IsCursor-at_lists _ _ _ _ _ at c.self.invariant.activity_each c.deref.ensures.value c.deref-2.ensures.value c.first_inside-self-inside.ensures.cursor in
    let stands : stands_in m.inside.items at ≡ true = subst (λ (bs : List Bool). stands_in bs at ≡ true) c.deref-2.ensures.value (c.first_inside-self-inside.ensures.stands some) in
    let greatest : IsGreatest c.args.self.now at = subst (λ s. IsGreatest s at) c.self.view_is (greatest_at_cursor m.vars m.activities.items m.inside.items m.top c.self.invariant.few c.self.invariant.inside_each at some stands is_cursor) in
    some_answer c.from_number.result (IsVariable at) at (IsGreatest c.args.self.now) c.from_number.ensures (λ v is. subst (λ n. IsGreatest c.args.self.now n) (sym is) greatest)

pub returns-clause-none : goal.returns-clause-none
returns-clause-none c =
    let m = c.self.inside in
    let at = c.first_inside-self-inside.result in
    let some : 0 < at = omega (arith, c.if-self-eq0.false) in
    let is_cursor = IsCursor-at_lists _ _ _ _ _ at c.self.invariant.activity_each c.deref.ensures.value c.deref-2.ensures.value c.first_inside-self-inside.ensures.cursor in
    let stands : stands_in m.inside.items at ≡ true = subst (λ (bs : List Bool). stands_in bs at ≡ true) c.deref-2.ensures.value (c.first_inside-self-inside.ensures.stands some) in
    let greatest : IsGreatest c.args.self.now at = subst (λ s. IsGreatest s at) c.self.view_is (greatest_at_cursor m.vars m.activities.items m.inside.items m.top c.self.invariant.few c.self.invariant.inside_each at some stands is_cursor) in
    let fits : at ≤ MOST = omega (arith, is_cursor.fits, c.self.invariant.few) in (
      λ none. absurd (is_there c.from_number.result (IsVariable at) at c.from_number.ensures (omega (arith, some), fits) none),
      λ empty. absurd (false≢true (sym (empty at) ∙ greatest.stands)),
    )
