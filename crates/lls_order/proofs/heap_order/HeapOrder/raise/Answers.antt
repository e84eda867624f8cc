use Rattle.std.proofs.Common.{◌≡◌, ◌+◌, ◌-◌, ◌<◌, ◌≤◌, ℕ, List, get_or, set, subst, sym, ◌∙◌, ap, arith}
use Rattle.std.proofs.lemmas.List.{with_items_is, get_or_read}
use Rattle.lls_order.specs.declared.order.TheConstants.{MOST_ACTIVITY}
use Rattle.lls_order.specs.HeapOrder.{HeapState}
use Rattle.lls_order.specs.Heap.{AreTables, IsHeap, IsHeapButAt, ranks}
use Rattle.lls_order.proofs.HeapParts.{AreParts-risen, risen_inside}
use Rattle.lls_order.proofs.heap_order.HeapOrder.raise.Goals as goal

pub invariant_of-self : goal.invariant_of-self
invariant_of-self c =
    let m = c.self.inside in
    let new = c.sift_up.new.heap in
    let after = c.sift_up.new.places in
    let v = c.number.result - 1 in
    let activity = get_or m.activities.items v 0 in
    let most : c.args.var ≤ m.vars = rw (ap (λ (s : HeapState). s.order.vars) c.self.view_is) c.requires.within in
    let v_in : v < m.vars = omega (arith, most, c.number.ensures.number, c.number.ensures.variable.0) in
    let was : c.index_mut.result.now ≡ activity = get_or_read m.activities.items v c.index_mut.result.now (omega (arith, v_in, c.self.invariant.activity_each)) c.index_mut.ensures.value 0 in
    let is : set m.activities.items v (c.index_mut.result.now + m.amount) ≡ set m.activities.items v (activity + m.amount) = ap (λ a. set m.activities.items v (a + m.amount)) was in
    let stands : c.index.result.now ≡ get_or m.places.items v 0 = get_or_read m.places.items v c.index.result.now (omega (arith, v_in, c.self.invariant.activity_each, c.self.invariant.tables.number_each, c.self.invariant.tables.inverse.place_each)) c.index.ensures 0 in
    let sum : activity + m.amount ≤ MOST_ACTIVITY =
    omega (arith, rw (← c.self.view_is) at c.requires.fits, ap (λ n. get_or m.activities.items (n - 1) 0) c.number.ensures.number) in
    let P : List ℕ → Type 0 = λ xs. AreTables xs new after in
    let Q : List ℕ → Type 0 = λ xs. IsHeap (ranks xs new) m.count in
    let handed = c.deref.ensures.value ∙ is in
    let start = risen_inside m.vars m.count m.amount v m.activities.items m.heap.items m.places.items c.self.invariant v_in in
    let R : List ℕ → Type 0 = λ xs. IsHeapButAt (ranks xs m.heap.items) m.count c.index.result.now in
    let S : List ℕ → Type 0 = λ hs. IsHeapButAt (ranks c.deref.result.now hs) m.count c.index.result.now in
    let T : ℕ → Type 0 = λ n. IsHeapButAt (ranks (set m.activities.items v (activity + m.amount)) m.heap.items) m.count n in
    let is_heap = c.sift_up.ensures.heap m.count (subst S (sym c.deref_mut.ensures.value) (subst R (sym handed) (subst T (sym stands) start))) in
    rw (is, with_items_is m.heap new (c.sift_up.auto.heap ∙ c.deref_mut.ensures.len), with_items_is m.places after (c.sift_up.auto.places ∙ c.deref_mut-then-place-self.ensures.len))
    (AreParts-risen m.vars m.count m.amount v m.activities.items m.heap.items m.places.items c.self.invariant v_in new after sum (subst P handed c.sift_up.ensures.tables) (subst Q handed is_heap))
