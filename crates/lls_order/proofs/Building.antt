-- A heap that is made of one number after another.
use Rattle.std.proofs.Common.{◌≡◌, ℕ, ◌+◌, ◌≤◌, List, length, arith}
use Rattle.lls_order.specs.Heap.{AreTables, IsHeap, IsHeapButAt, inside_of, ranks}
use Rattle.lls_order.proofs.Sifts.{parent_of-lt}

-- the first places are a heap
pub record IsBuilding (activities first_places : List ℕ) (count : ℕ) (heap places : List ℕ) (at : ℕ) : Type 0 where
  pub within : count ≤ length heap
  pub tables : AreTables activities heap places
  pub inside : inside_of count places ≡ inside_of count first_places
  pub is_heap : IsHeap (ranks activities heap) at

pub one_more : (f : ℕ → ℕ) (at : ℕ) → IsHeap f at → IsHeapButAt f (at + 1) at
one_more f at h = record {
  others = λ k above within other. h.kept k above (omega (arith, within, other));
  across = λ k above within child at_above. absurd (omega (arith, within, child, parent_of-lt k above));
}
