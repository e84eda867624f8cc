use Rattle.std.proofs.Common.{◌≡◌, ◌/◌, ◌^◌, ℕ, List, length, map, ap, ◌∙◌, subst}
use Rattle.std.proofs.lemmas.List.{with_items_is}
use Rattle.lls_order.specs.Heap.{AreTables, IsHeap, ranks}
use Rattle.lls_order.proofs.HeapParts.{AreParts-scaled}
use Rattle.lls_order.proofs.heap_order.HeapOrder.scale_down.Goals as goal

pub invariant_of-self : goal.invariant_of-self
invariant_of-self c =
    let m = c.self.inside in
    let scaled = c.shift_all.new.activities in
    let new = c.make_heap.new.heap in
    let after = c.make_heap.new.places in
    let is : scaled ≡ map (λ a. a / 2 ^ c.args.power) m.activities.items = c.shift_all.ensures ∙ ap (map (λ a. a / 2 ^ c.args.power)) c.deref_mut.ensures.value in
    let scaled_len : length scaled ≡ m.activities.len = c.shift_all.auto.activities ∙ c.deref_mut.ensures.len in
    let new_len : length new ≡ m.heap.len = c.make_heap.auto.heap ∙ c.deref_mut-2.ensures.len in
    let after_len : length after ≡ m.places.len = c.make_heap.auto.places ∙ c.deref_mut-3.ensures.len in
    let handed : c.deref.result.now ≡ scaled = c.deref.ensures.value ∙ with_items_is m.activities scaled scaled_len in
    let P : List ℕ → Type 0 = λ xs. AreTables xs new after in
    let Q : List ℕ → Type 0 = λ xs. IsHeap (ranks xs new) m.count in
    rw (with_items_is m.activities scaled scaled_len, with_items_is m.heap new new_len, with_items_is m.places after after_len)
    (AreParts-scaled m.vars m.count m.amount c.max-self-inside.result c.args.power m.activities.items m.heap.items m.places.items scaled new after c.self.invariant is c.max-self-inside.ensures (subst P handed c.make_heap.ensures.tables) (subst Q handed c.make_heap.ensures.heap))
