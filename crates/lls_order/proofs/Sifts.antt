-- Heaps of numbers, given by the number at each place, as a place and its parent are exchanged.
use Rattle.std.proofs.Common.{◌≡◌, ◌≢◌, ℕ, ◌+◌, ◌<◌, ◌≤◌, sym, ap, ◌∙◌, inl, inr, arith}
use Rattle.std.proofs.lemmas.List.Edits.{Swapped}
use Rattle.std.proofs.lemmas.Bool.Decides.{eqb_tells}
use Rattle.lls_order.specs.Heap.{IsHeap, IsHeapButAt, IsHeapButBelow, IsGreaterChild, parent_of}
use Rattle.lls_order.proofs.Tables.{first, second, neither, among}

pub parent_of-lt : (k : ℕ) → 0 < k → parent_of k < k
parent_of-lt k above = omega arith

-- what stands where a place and another were exchanged
module _ (f g : ℕ → ℕ) (i j : ℕ) (swapped : Swapped f g i j) where
  pub at_first : (k : ℕ) → k ≡ i → g k ≡ f j
  at_first k at = ap g at ∙ swapped.0

  pub at_second : (k : ℕ) → k ≡ j → g k ≡ f i
  at_second k at = ap g at ∙ swapped.1

-- a place that has more than its parent rises
module _ (f g : ℕ → ℕ) (count at parent : ℕ) (swapped : Swapped f g at parent) (above : 0 < at) (is : parent ≡ parent_of at) (less : f parent < f at) (h : IsHeapButAt f count at) where
  others_risen : (k : ℕ) → 0 < k → k < count → k ≢ parent → g k ≤ g (parent_of k)
  others_risen k k_above k_in other = elim (eqb_tells k at) [
    | inl t ↦ omega (arith, at_first f g at parent swapped k t.1, at_second f g at parent swapped (parent_of k) (ap parent_of t.1 ∙ sym is), less)
    | inr t ↦ elim (among at parent (parent_of k)) [
      | first p same ↦ omega (arith, swapped.2 k t.1 other, at_first f g at parent swapped (parent_of k) same, h.across k k_above k_in same above, ap f is)
      | second p _ same ↦ omega (arith, swapped.2 k t.1 other, at_second f g at parent swapped (parent_of k) same, h.others k k_above k_in t.1, ap f same, less)
      | neither p apart_first apart_second ↦ omega (arith, swapped.2 k t.1 other, swapped.2 (parent_of k) apart_first apart_second, h.others k k_above k_in t.1)
    ]
  ]

  across_risen : (k : ℕ) → 0 < k → k < count → parent_of k ≡ parent → 0 < parent → g k ≤ g (parent_of parent)
  across_risen k k_above k_in child parent_above =
      let low : parent < at = omega (arith, is, parent_of-lt at above) in
      let lower : parent_of parent < parent = parent_of-lt parent parent_above in
      let before : parent < k = omega (arith, child, parent_of-lt k k_above) in
      let stays : g (parent_of parent) ≡ f (parent_of parent) = swapped.2 (parent_of parent) (λ same. omega (arith, same, low, lower)) (λ same. omega (arith, same, lower)) in
      let right : f parent ≤ f (parent_of parent) = h.others parent parent_above (omega (arith, before, k_in)) (λ same. omega (arith, same, low)) in
      elim (eqb_tells k at) [
        | inl t ↦ omega (arith, at_first f g at parent swapped k t.1, stays, right)
        | inr t ↦ omega (arith, swapped.2 k t.1 (λ same. omega (arith, same, before)), h.others k k_above k_in t.1, ap f child, stays, right)
      ]

  pub rises : IsHeapButAt g count parent
  rises = record { others = others_risen; across = across_risen }

-- a place that has no more than its parent is right
pub rests_below : (f : ℕ → ℕ) (count at : ℕ) → (0 < at → f at ≤ f (parent_of at)) → IsHeapButAt f count at → IsHeap f count
rests_below f count at right h = record {
  kept = λ k above within. elim (eqb_tells k at) [
    | inl t ↦ omega (arith, ap f t.1, ap (λ n. f (parent_of n)) t.1, right (omega (arith, above, t.1)))
    | inr t ↦ h.others k above within t.1
  ];
}

-- a place whose greater child has more sinks
module _ (f g : ℕ → ℕ) (count at child : ℕ) (swapped : Swapped f g at child) (c : IsGreaterChild f count at child) (h : IsHeapButBelow f count at) where
  pub at_below : at < child
  at_below = omega (arith, c.child_of, parent_of-lt child c.above_zero)

  others_sunk : (k : ℕ) → 0 < k → k < count → parent_of k ≢ child → g k ≤ g (parent_of k)
  others_sunk k k_above k_in other = elim (among at child k) [
    | first k same ↦
        let low : parent_of k < k = parent_of-lt k k_above in
        let stays : g (parent_of k) ≡ f (parent_of k) = swapped.2 (parent_of k) (λ same_place. omega (arith, same_place, same, low)) other in
        omega (arith, at_first f g at child swapped k same, stays, h.across child c.above_zero c.within c.child_of (omega (arith, same, k_above)), ap (λ n. f (parent_of n)) same)
    | second k _ same ↦
        omega (arith, at_second f g at child swapped k same, at_first f g at child swapped (parent_of k) (ap parent_of same ∙ c.child_of), c.greater)
    | neither k apart_first apart_second ↦
        elim (eqb_tells (parent_of k) at) [
          | inl t ↦ omega (arith, swapped.2 k apart_first apart_second, at_first f g at child swapped (parent_of k) t.1, c.greatest k k_above k_in t.1)
          | inr t ↦ omega (arith, swapped.2 k apart_first apart_second, swapped.2 (parent_of k) t.1 other, h.others k k_above k_in t.1)
        ]
  ]

  across_sunk : (k : ℕ) → 0 < k → k < count → parent_of k ≡ child → 0 < child → g k ≤ g (parent_of child)
  across_sunk k k_above k_in of_child child_above =
      let before : child < k = omega (arith, of_child, parent_of-lt k k_above) in
      omega (arith, swapped.2 k (λ same. omega (arith, same, before, at_below)) (λ same. omega (arith, same, before)), at_first f g at child swapped (parent_of child) c.child_of, h.others k k_above k_in (λ same. omega (arith, same, of_child, at_below)), ap f of_child)

  pub sinks : IsHeapButBelow g count child
  sinks = record { others = others_sunk; across = across_sunk }

-- a place whose children have no more is right
pub rests_above : (f : ℕ → ℕ) (count at : ℕ) → ((k : ℕ) → 0 < k → k < count → parent_of k ≡ at → f k ≤ f at) → IsHeapButBelow f count at → IsHeap f count
rests_above f count at right h = record {
  kept = λ k above within. elim (eqb_tells (parent_of k) at) [
    | inl t ↦ omega (arith, right k above within t.1, ap f t.1)
    | inr t ↦ h.others k above within t.1
  ];
}

-- the last place comes to the top
pub on_top : (f g : ℕ → ℕ) (count : ℕ) → Swapped f g 0 count → IsHeap f (count + 1) → IsHeapButBelow g count 0
on_top f g count swapped h = record {
  others = λ k above within other.
      let low : parent_of k < k = parent_of-lt k above in
      omega (arith, swapped.2 k (λ same. omega (arith, same, above)) (λ same. omega (arith, same, within)), swapped.2 (parent_of k) other (λ same. omega (arith, same, within, low)), h.kept k above (omega (arith, within)));
  across = λ k above within child below. absurd (omega (arith, below));
}

-- another place comes to the end
pub at_end : (f g : ℕ → ℕ) (place count : ℕ) → count ≤ place → Swapped f g place count → IsHeap f count → IsHeapButAt g (count + 1) count
at_end f g place count behind swapped h = record {
  others = λ k above within other.
      let low : parent_of k < k = parent_of-lt k above in
      let before : k < count = omega (arith, within, other) in
      omega (arith, swapped.2 k (λ same. omega (arith, same, before, behind)) other, swapped.2 (parent_of k) (λ same. omega (arith, same, before, low, behind)) (λ same. omega (arith, same, before, low)), h.kept k above before);
  across = λ k above within child below. absurd (omega (arith, within, child, parent_of-lt k above));
}
