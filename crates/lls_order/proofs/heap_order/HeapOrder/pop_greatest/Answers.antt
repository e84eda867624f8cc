use Rattle.std.proofs.Common.{◌≡◌, ◌+◌, ◌<◌, ◌≤◌, true, get_or, length, refl, subst, sym, ◌∙◌, arith}
use Rattle.std.proofs.lemmas.Bool.{false≢true}
use Rattle.std.proofs.lemmas.List.{get_or_read}
use Rattle.lls_lit.specs.Literal.{IsVariable}
use Rattle.lls_lit.specs.declared.var.TheConstants.Var.{MOST}
use Rattle.lls_order.specs.Order.{IsEmpty, IsGreatest, is_in}
use Rattle.lls_order.specs.HeapOrder.{HeapState}
use Rattle.lls_order.proofs.Greatest.{first_is_in, first_is_greatest, none_in, some_answer, is_there}
use Rattle.lls_order.proofs.heap_order.HeapOrder.pop_greatest.Goals as goal

pub returns-then-self-eq0-clause-none : goal.returns-then-self-eq0-clause-none
returns-then-self-eq0-clause-none c =
    let m = c.self.inside in
    (λ none. subst (λ (s : HeapState). IsEmpty s.order) c.self.view_is (none_in m.vars m.count m.amount m.activities.items m.places.items c.if-self-eq0.true), λ empty. refl)

pub returns-clause-greatest : goal.returns-clause-greatest
returns-clause-greatest c =
    let m = c.self.inside in
    let g = c.index-greatest.result.now in
    let some : 0 < m.count = omega (arith, c.if-self-eq0.false) in
    let first : g ≡ get_or m.heap.items 0 0 = get_or_read m.heap.items 0 g (omega (arith, some, c.self.invariant.within, c.self.invariant.activity_each, c.self.invariant.tables.number_each)) c.index-greatest.ensures 0 in
    some_answer c.from_number.result (IsVariable (g + 1)) (g + 1) (IsGreatest c.args.self.now.order) c.from_number.ensures (λ v at.
    let P : HeapState → Type 0 = λ s. IsGreatest s.order v in
    subst P c.self.view_is (first_is_greatest m.vars m.count m.amount m.activities.items m.heap.items m.places.items c.self.invariant v some (omega (arith, at, first)))
    )

pub returns-clause-none : goal.returns-clause-none
returns-clause-none c =
    let m = c.self.inside in
    let g = c.index-greatest.result.now in
    let some : 0 < m.count = omega (arith, c.if-self-eq0.false) in
    let some_number : 0 < length m.heap.items = omega (arith, some, c.self.invariant.within, c.self.invariant.activity_each, c.self.invariant.tables.number_each) in
    let first : g ≡ get_or m.heap.items 0 0 = get_or_read m.heap.items 0 g some_number c.index-greatest.ensures 0 in
    let fits : g + 1 ≤ MOST = omega (arith, first, c.self.invariant.tables.inverse.number_fits 0 some_number, c.self.invariant.tables.number_each, c.self.invariant.tables.few) in
    let P : HeapState → Type 0 = λ s. is_in s.order (g + 1) ≡ true in
    let stands : is_in c.args.self.now.order (g + 1) ≡ true = subst P c.self.view_is (first_is_in m.vars m.count m.amount m.activities.items m.heap.items m.places.items c.self.invariant (g + 1) some (omega (arith, first))) in (
      λ none. absurd (is_there c.from_number.result (IsVariable (g + 1)) (g + 1) c.from_number.ensures (omega arith, fits) none),
      λ empty. absurd (false≢true (sym (empty (g + 1)) ∙ stands)),
    )
