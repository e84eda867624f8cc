-- The first number of a heap is the greatest variable.
use Rattle.std.proofs.Common.{◌≡◌, ◌≢◌, ℕ, zero, suc, ◌+◌, ◌-◌, ◌*◌, ◌<◌, ◌≤◌, true, false, List, length, get_or, Some, None, refl, sym, ap, subst, ◌∙◌, ◌⊎◌, inl, inr, arith, add-one}
use Rattle.std.specs.Prelude.{Option, SomeIff, IfSome, nat_lt}
use Rattle.std.proofs.lemmas.Bool.{cases_lt, false≢true}
use Rattle.std.proofs.lemmas.Bool.Decides.{nat_tests}
use Rattle.std.proofs.lemmas.List.{length-map, get_or_past}
use Rattle.lls_lit.specs.declared.var.TheConstants.Var.{MOST}
use Rattle.lls_order.specs.Order.{ComesBefore, IsEmpty, IsGreatest, is_in}
use Rattle.lls_order.specs.Heap.{AreParts, IsHeap, inside_of, heap_in, parent_of, rank_of, ranks}
use Rattle.lls_order.proofs.Inside.{get_or-inside_of, is_below, not_below}
use Rattle.lls_order.proofs.Sifts.{parent_of-lt}

-- the first place has most
top_within : (f : ℕ → ℕ) (count : ℕ) → IsHeap f count → (fuel k : ℕ) → k ≤ fuel → k < count → f k ≤ f 0
top_within f count h zero k small within = omega (arith, ap f (zero_only k small)) where
  zero_only : (k : ℕ) → k ≤ 0 → k ≡ 0
  zero_only k small = omega arith
top_within f count h (suc fuel) k small within = elim (cases_lt 0 k) [
  | inl above ↦
      let low : parent_of k < k = parent_of-lt k above in
      omega (arith, h.kept k above within, top_within f count h fuel (parent_of k) (omega (arith, low, small)) (omega (arith, low, within)))
  | inr none ↦ omega (arith, ap f (zero_only k none))
] where
  zero_only : (k : ℕ) → k ≤ 0 → k ≡ 0
  zero_only k small = omega arith

pub top : (f : ℕ → ℕ) (count k : ℕ) → IsHeap f count → k < count → f k ≤ f 0
top f count k h within = top_within f count h k k (omega arith) within

-- what one number for activity and variable says of both
by_rank : (x y u g : ℕ) → u < MOST → g < MOST → u ≢ g → x * MOST + (MOST - u) ≤ y * MOST + (MOST - g) → (x < y) ⊎ ((x ≡ y) × (g + 1 < u + 1))
by_rank x y u g u_fits g_fits apart le = elim (cases_lt x y) [
  | inl less ↦ inl less
  | inr ge ↦ inr (omega arith, omega arith)
]

-- a variable is in where its number stands at the first places
is_in-inside : (vars count amount : ℕ) (activities places : List ℕ) (u : ℕ) → u < length places → is_in (heap_in vars activities count places amount).order (suc u) ≡ nat_lt (get_or places u 0) count
is_in-inside vars count amount activities places u within = get_or-inside_of count places u within

below_of : (a c : ℕ) → nat_lt a c ≡ true → a < c
below_of a c is = grind (arith, nat_tests)

-- a variable that is in has a place before the cut
pub record HasPlace (count : ℕ) (places : List ℕ) (u : ℕ) : Type 0 where
  pub fits : u < length places
  pub before : get_or places u 0 < count

has_place : (vars count amount : ℕ) (activities places : List ℕ) (u : ℕ) → is_in (heap_in vars activities count places amount).order (suc u) ≡ true → HasPlace count places u
has_place vars count amount activities places u is = elim (cases_lt u (length places)) [
  | inl within ↦ record { fits = within; before = below_of (get_or places u 0) count (sym (is_in-inside vars count amount activities places u within) ∙ is) }
  | inr past ↦ absurd (false≢true (sym (get_or_past (inside_of count places) u false (omega (arith, past, length-map places (λ place. nat_lt place count)))) ∙ is))
]

module _ (vars count amount : ℕ) (activities heap places : List ℕ) (h : AreParts vars activities count heap places amount) where
  place_each : length places ≡ vars
  place_each = h.tables.inverse.place_each ∙ h.tables.number_each ∙ h.activity_each

  pub first_is_in : (v : ℕ) → 0 < count → v ≡ get_or heap 0 0 + 1 → is_in (heap_in vars activities count places amount).order v ≡ true
  first_is_in v some at =
      let g = get_or heap 0 0 in
      let P : ℕ → Type 0 = λ n. is_in (heap_in vars activities count places amount).order n ≡ true in
      let number : length heap ≡ vars = h.tables.number_each ∙ h.activity_each in
      let some_number : 0 < length heap = omega (arith, some, h.within, number) in
      let within : g < length places = omega (arith, h.tables.inverse.number_fits 0 some_number, place_each, number) in
      let place : get_or places g 0 ≡ 0 = h.tables.inverse.place_back 0 some_number in
      subst P (sym (at ∙ add-one g)) (is_in-inside vars count amount activities places g within ∙ is_below (get_or places g 0) count (omega (arith, place, some)))

  others_after : (v w : ℕ) → 0 < count → v ≡ get_or heap 0 0 + 1 → is_in (heap_in vars activities count places amount).order w ≡ true → w ≢ v → ComesBefore (heap_in vars activities count places amount).order v w
  others_after v zero some at stands other = absurd (false≢true stands)
  others_after v (suc u) some at stands other =
      let g = get_or heap 0 0 in
      let k = get_or places u 0 in
      let placed = has_place vars count amount activities places u stands in
      let number : length heap ≡ vars = h.tables.number_each ∙ h.activity_each in
      let some_number : 0 < length heap = omega (arith, some, h.within, number) in
      let fits : u < vars = omega (arith, placed.fits, place_each) in
      let g_fits : g < vars = omega (arith, h.tables.inverse.number_fits 0 some_number, number) in
      let back : get_or heap k 0 ≡ u = h.tables.inverse.number_back u (omega (arith, fits, number)) in
      let most : rank_of activities u ≤ rank_of activities g = omega (arith, top (ranks activities heap) count k h.is_heap placed.before, ap (rank_of activities) back) in
      let activity : get_or activities (suc u - 1) 0 ≡ get_or activities u 0 = ap (λ n. get_or activities n 0) (omega arith) in
      let its_activity : get_or activities (v - 1) 0 ≡ get_or activities g 0 = ap (λ n. get_or activities n 0) (omega (arith, at)) in
      elim (by_rank (get_or activities u 0) (get_or activities g 0) u g (omega (arith, fits, h.activity_each, h.tables.few)) (omega (arith, g_fits, h.activity_each, h.tables.few)) (λ same. other (omega (arith, same, at))) most) [
        | inl less ↦ inl (omega (arith, activity, its_activity, less))
        | inr t ↦ inr (activity ∙ t.0 ∙ sym its_activity, omega (arith, at, t.1))
      ]

  pub first_is_greatest : (v : ℕ) → 0 < count → v ≡ get_or heap 0 0 + 1 → IsGreatest (heap_in vars activities count places amount).order v
  first_is_greatest v some at = record { stands = first_is_in v some at; first = λ w stands other. others_after v w some at stands other }

-- where the cut is before the first place, no variable is in
pub none_in : (vars count amount : ℕ) (activities places : List ℕ) → count ≡ 0 → IsEmpty (heap_in vars activities count places amount).order
none_in vars count amount activities places none = each where
  each : (v : ℕ) → is_in (heap_in vars activities count places amount).order v ≡ false
  each zero = refl
  each (suc u) = elim (cases_lt u (length places)) [
    | inl within ↦ get_or-inside_of count places u within ∙ not_below (get_or places u 0) count (omega (arith, none))
    | inr past ↦ get_or_past (inside_of count places) u false (omega (arith, past, length-map places (λ place. nat_lt place count)))
  ]

-- an answer that is there exactly where it may be
pub some_answer : (o : Option ℕ) (P : Type 0) (v : ℕ) (Q : ℕ → Type 0) → SomeIff o P v → ((w : ℕ) → w ≡ v → Q w) → IfSome o Q
some_answer None P v Q h q = tt
some_answer (Some x) P v Q h q = q x h.1

pub is_there : (o : Option ℕ) (P : Type 0) (v : ℕ) → SomeIff o P v → P → o ≡ None → ⊥
is_there None P v h p none = h p
is_there (Some x) P v h p none = cc
