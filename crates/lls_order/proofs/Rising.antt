-- A number that rises in a heap.
use Rattle.std.proofs.Common.{◌≡◌, ℕ, ◌<◌, ◌≤◌, List, length, ap, ◌∙◌, arith}
use Rattle.std.specs.Prelude.{swap}
use Rattle.std.proofs.lemmas.List.Edits.{Swapped, swapped_from_swap, length-swap}
use Rattle.lls_order.specs.Heap.{AreInverse, AreTables, IsHeapButAt, SameInside, parent_of, ranks, rank_of}
use Rattle.lls_order.proofs.Inside.{inside_of-exchanged}
use Rattle.lls_order.proofs.Sifts.{rises, parent_of-lt}

-- how far it has come
pub record IsRising (activities first_heap first_places : List ℕ) (from : ℕ) (heap places : List ℕ) (at : ℕ) : Type 0 where
  pub below : at ≤ from
  pub within : from < length heap
  pub tables : AreTables activities heap places
  pub inside : SameInside from first_places places
  pub heap_but : (count : ℕ) → IsHeapButAt (ranks activities first_heap) count from → IsHeapButAt (ranks activities heap) count at

pub AreTables-exchanged : (activities heap places new after : List ℕ) (i j : ℕ) → AreTables activities heap places → new ≡ swap heap i j → AreInverse new after → AreTables activities new after
AreTables-exchanged activities heap places new after i j h is inverse = record {
  few = h.few;
  number_each = ap length is ∙ length-swap heap i j ∙ h.number_each;
  inverse = inverse;
}

pub ranks-exchanged : (activities heap new : List ℕ) (i j : ℕ) → i < length heap → j < length heap → new ≡ swap heap i j → Swapped (ranks activities heap) (ranks activities new) i j
ranks-exchanged activities heap new i j i_in j_in is =
    let swapped = swapped_from_swap heap new i j 0 i_in j_in is in
    (ap (rank_of activities) swapped.0, ap (rank_of activities) swapped.1, λ k other_first other_second. ap (rank_of activities) (swapped.2 k other_first other_second))

pub IsRising-more : (activities first_heap first_places : List ℕ) (from : ℕ) (heap places new after : List ℕ) (at parent : ℕ)
    → IsRising activities first_heap first_places from heap places at → 0 < at → parent ≡ parent_of at → ranks activities heap parent < ranks activities heap at
    → new ≡ swap heap at parent → AreInverse new after → IsRising activities first_heap first_places from new after parent
IsRising-more activities first_heap first_places from heap places new after at parent h above is less swapped inverse =
    let low : parent < at = omega (arith, is, parent_of-lt at above) in
    let at_in : at < length heap = omega (arith, h.below, h.within) in
    let parent_in : parent < length heap = omega (arith, low, at_in) in
    record {
      below = omega (arith, low, h.below);
      within = omega (arith, h.within, ap length swapped, length-swap heap at parent);
      tables = AreTables-exchanged activities heap places new after at parent h.tables swapped inverse;
      inside = λ count before.
          inside_of-exchanged heap places new after at parent count at_in parent_in h.tables.inverse inverse swapped (omega (arith, h.below, before)) (omega (arith, low, h.below, before)) ∙ h.inside count before;
      heap_but = λ count start. rises (ranks activities heap) (ranks activities new) count at parent (ranks-exchanged activities heap new at parent at_in parent_in swapped) above is less (h.heap_but count start);
    }
