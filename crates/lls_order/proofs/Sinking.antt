-- A number that sinks in a heap.
use Rattle.std.proofs.Common.{◌≡◌, ℕ, ◌<◌, ◌≤◌, List, length, ap, ◌∙◌, arith}
use Rattle.std.specs.Prelude.{swap}
use Rattle.std.proofs.lemmas.List.Edits.{length-swap}
use Rattle.lls_order.specs.Heap.{AreInverse, AreTables, IsHeapButBelow, IsGreaterChild, inside_of, ranks}
use Rattle.lls_order.proofs.Inside.{inside_of-exchanged}
use Rattle.lls_order.proofs.Sifts.{sinks}
use Rattle.lls_order.proofs.Rising.{AreTables-exchanged, ranks-exchanged}

-- how far it has come
pub record IsSinking (activities first_heap first_places : List ℕ) (count : ℕ) (heap places : List ℕ) (at : ℕ) : Type 0 where
  pub within : count ≤ length heap
  pub tables : AreTables activities heap places
  pub inside : inside_of count places ≡ inside_of count first_places
  pub heap_but : IsHeapButBelow (ranks activities first_heap) count 0 → IsHeapButBelow (ranks activities heap) count at

pub child_below : (f : ℕ → ℕ) (count at child : ℕ) → IsGreaterChild f count at child → at < child
child_below f count at child c = omega (arith, c.child_of, c.above_zero)

pub IsSinking-more : (activities first_heap first_places : List ℕ) (count : ℕ) (heap places new after : List ℕ) (at child : ℕ)
    → IsSinking activities first_heap first_places count heap places at → IsGreaterChild (ranks activities heap) count at child
    → new ≡ swap heap at child → AreInverse new after → IsSinking activities first_heap first_places count new after child
IsSinking-more activities first_heap first_places count heap places new after at child h c swapped inverse =
    let low : at < child = child_below (ranks activities heap) count at child c in
    let child_in : child < length heap = omega (arith, c.within, h.within) in
    let at_in : at < length heap = omega (arith, low, child_in) in
    record {
      within = omega (arith, h.within, ap length swapped, length-swap heap at child);
      tables = AreTables-exchanged activities heap places new after at child h.tables swapped inverse;
      inside = inside_of-exchanged heap places new after at child count at_in child_in h.tables.inverse inverse swapped (omega (arith, low, c.within)) c.within ∙ h.inside;
      heap_but = λ start. sinks (ranks activities heap) (ranks activities new) count at child (ranks-exchanged activities heap new at child at_in child_in swapped) c (h.heap_but start);
    }
