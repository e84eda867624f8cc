use Rattle.std.proofs.Common.{◌≡◌, ◌+◌, ◌-◌, ◌<◌, ◌≤◌, Bool, true, List, get_or, set, length, sym, ◌∙◌, ap, subst, arith}
use Rattle.std.specs.Prelude.{nat_lt}
use Rattle.std.proofs.lemmas.List.{with_items_is, get_or_read, length-map}
use Rattle.lls_order.specs.declared.order.TheConstants.{MOST_ACTIVITY}
use Rattle.lls_order.specs.Order.{is_in}
use Rattle.lls_order.specs.HeapOrder.{HeapState}
use Rattle.lls_order.specs.Heap.{inside_of}
use Rattle.lls_order.proofs.HeapParts.{inside_of-put_again, is_in-put_in}
use Rattle.lls_order.proofs.heap_order.HeapOrder.put_back.Goals as goal

pub returns-then-place-self-clause-put_in : goal.returns-then-place-self-clause-put_in
returns-then-place-self-clause-put_in c =
    let m = c.self.inside in
    let new = c.insert_from.new.heap in
    let after = c.insert_from.new.places in
    let v = c.number.result - 1 in
    let place = c.index.result.now in
    let most : c.args.var ≤ m.vars = rw (ap (λ (s : HeapState). s.order.vars) c.self.view_is) c.requires in
    let each : length m.heap.items ≡ m.vars = c.self.invariant.tables.number_each ∙ c.self.invariant.activity_each in
    let v_in : v < length m.heap.items = omega (arith, most, each, c.number.ensures.number, c.number.ensures.variable.0) in
    let stands : place ≡ get_or m.places.items v 0 = get_or_read m.places.items v place (omega (arith, v_in, c.self.invariant.tables.inverse.place_each)) c.index.ensures 0 in
    let number : get_or m.heap.items place 0 ≡ c.args.var - 1 =
    ap (λ n. get_or m.heap.items n 0) stands ∙ c.self.invariant.tables.inverse.number_back v v_in ∙ ap (λ n. n - 1) c.number.ensures.number in
    let inside : inside_of (m.count + 1) after ≡ set (inside_of m.count m.places.items) (c.args.var - 1) true =
    c.insert_from.ensures.inside
    ∙ ap (λ ps. set (inside_of m.count ps) (get_or c.deref_mut.result.now place 0) true) c.deref_mut-then-place-self.ensures.value
    ∙ ap (λ hs. set (inside_of m.count m.places.items) (get_or hs place 0) true) c.deref_mut.ensures.value
    ∙ ap (λ n. set (inside_of m.count m.places.items) n true) number in
    rw (with_items_is m.places after (c.insert_from.auto.places ∙ c.deref_mut-then-place-self.ensures.len), ← c.self.view_is)
    (ap (λ (bs : List Bool). record { order = record { vars = m.vars; activities = m.activities.items; inside = bs; top = MOST_ACTIVITY }; amount = m.amount }) inside)

pub returns-else-place-self-clause-put_in : goal.returns-else-place-self-clause-put_in
returns-else-place-self-clause-put_in c =
    let m = c.self.inside in
    let v = c.number.result - 1 in
    let place = c.index.result.now in
    let most : c.args.var ≤ m.vars = rw (ap (λ (s : HeapState). s.order.vars) c.self.view_is) c.requires in
    let each : length m.places.items ≡ m.vars = c.self.invariant.tables.inverse.place_each ∙ c.self.invariant.tables.number_each ∙ c.self.invariant.activity_each in
    let v_in : v < length m.places.items = omega (arith, most, each, c.number.ensures.number, c.number.ensures.variable.0) in
    let stands : place ≡ get_or m.places.items v 0 = get_or_read m.places.items v place v_in c.index.ensures 0 in
    let again = inside_of-put_again m.count v m.places.items v_in (omega (arith, stands, c.if-place-self.false)) in
    let inside : inside_of m.count m.places.items ≡ set (inside_of m.count m.places.items) (c.args.var - 1) true =
    sym again ∙ ap (λ n. set (inside_of m.count m.places.items) (n - 1) true) c.number.ensures.number in
    rw (← c.self.view_is)
    (ap (λ (bs : List Bool). record { order = record { vars = m.vars; activities = m.activities.items; inside = bs; top = MOST_ACTIVITY }; amount = m.amount }) inside)

pub returns-then-place-self-clause-stands : goal.returns-then-place-self-clause-stands
returns-then-place-self-clause-stands c =
    let m = c.self.inside in
    let each : length m.places.items ≡ m.vars = c.self.invariant.tables.inverse.place_each ∙ c.self.invariant.tables.number_each ∙ c.self.invariant.activity_each in
    let inside : length c.args.self.now.order.inside ≡ m.vars = ap (λ (o : HeapState). length o.order.inside) (sym c.self.view_is) ∙ length-map m.places.items (λ place. nat_lt place m.count) ∙ each in
    let most : c.args.var ≤ m.vars = rw (ap (λ (o : HeapState). o.order.vars) c.self.view_is) c.requires in
    let P : HeapState → Type 0 = λ o. is_in o.order c.args.var ≡ true in
    subst P (sym (returns-then-place-self-clause-put_in c)) (is_in-put_in c.args.self.now c.args.var (omega (arith, c.number.ensures.variable.0, c.number.ensures.number)) (omega (arith, inside, most)))

pub returns-else-place-self-clause-stands : goal.returns-else-place-self-clause-stands
returns-else-place-self-clause-stands c =
    let m = c.self.inside in
    let each : length m.places.items ≡ m.vars = c.self.invariant.tables.inverse.place_each ∙ c.self.invariant.tables.number_each ∙ c.self.invariant.activity_each in
    let inside : length c.args.self.now.order.inside ≡ m.vars = ap (λ (o : HeapState). length o.order.inside) (sym c.self.view_is) ∙ length-map m.places.items (λ place. nat_lt place m.count) ∙ each in
    let most : c.args.var ≤ m.vars = rw (ap (λ (o : HeapState). o.order.vars) c.self.view_is) c.requires in
    let P : HeapState → Type 0 = λ o. is_in o.order c.args.var ≡ true in
    subst P (sym (returns-else-place-self-clause-put_in c)) (is_in-put_in c.args.self.now c.args.var (omega (arith, c.number.ensures.variable.0, c.number.ensures.number)) (omega (arith, inside, most)))
