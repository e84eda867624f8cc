-- The two tables of a heap, as two places are exchanged.
use Rattle.std.proofs.Common.{◌≡◌, ◌≢◌, ℕ, ◌<◌, List, length, get_or, set, sym, ap, ◌∙◌, inl, inr, arith}
use Rattle.std.specs.Prelude.{swap}
use Rattle.std.proofs.lemmas.List.{length-set, get_or-set_other}
use Rattle.std.proofs.lemmas.List.Edits.{swapped_from_swap, length-swap}
use Rattle.std.proofs.lemmas.Grind.{get_or-set_at}
use Rattle.std.proofs.lemmas.Bool.Decides.{eqb_tells}
use Rattle.lls_order.specs.Heap.{AreInverse}

-- one of two numbers, or neither
pub data Among (i j : ℕ) : ℕ → Type 0 where
  first : (k : ℕ) → k ≡ i → Among i j k
  second : (k : ℕ) → k ≢ i → k ≡ j → Among i j k
  neither : (k : ℕ) → k ≢ i → k ≢ j → Among i j k

pub among : (i j k : ℕ) → Among i j k
among i j k = elim (eqb_tells k i) [
  | inl t ↦ first k t.1
  | inr t ↦ elim (eqb_tells k j) [ inl u ↦ second k t.1 u.1 | inr u ↦ neither k t.1 u.1 ]
]

-- what a table has after two writes
module _ (xs : List ℕ) (first second v w : ℕ) (first_in : first < length xs) (second_in : second < length xs) where
  last_set : (k : ℕ) → k ≡ second → get_or (set (set xs first v) second w) k 0 ≡ w
  last_set k at = get_or-set_at (set xs first v) second k w 0 at (omega (arith, second_in, length-set xs first v))

  first_set : (k : ℕ) → k ≢ second → k ≡ first → get_or (set (set xs first v) second w) k 0 ≡ v
  first_set k other at = get_or-set_other (set xs first v) second k w 0 other ∙ get_or-set_at xs first k v 0 at first_in

  none_set : (k : ℕ) → k ≢ second → k ≢ first → get_or (set (set xs first v) second w) k 0 ≡ get_or xs k 0
  none_set k other_second other_first = get_or-set_other (set xs first v) second k w 0 other_second ∙ get_or-set_other xs first k v 0 other_first

module _ (heap places new : List ℕ) (i j : ℕ) (i_in : i < length heap) (j_in : j < length heap) (h : AreInverse heap places) (is : new ≡ swap heap i j) where
  x : ℕ
  x = get_or heap i 0

  y : ℕ
  y = get_or heap j 0

  after : List ℕ
  after = set (set places (get_or new i 0) i) (get_or new j 0) j

  same_length : length new ≡ length heap
  same_length = ap length is ∙ length-swap heap i j

  at_first : get_or new i 0 ≡ get_or heap j 0
  at_first = (swapped_from_swap heap new i j 0 i_in j_in is).0

  at_second : get_or new j 0 ≡ get_or heap i 0
  at_second = (swapped_from_swap heap new i j 0 i_in j_in is).1

  elsewhere : (k : ℕ) → k ≢ i → k ≢ j → get_or new k 0 ≡ get_or heap k 0
  elsewhere = (swapped_from_swap heap new i j 0 i_in j_in is).2

  -- the second number's place is the first, unless both are one, and so on
  place_first : (v : ℕ) → v ≡ get_or heap i 0 → get_or after v 0 ≡ j
  unfolding after
  place_first v at =
      last_set places (get_or new i 0) (get_or new j 0) i j (omega (arith, at_first, h.number_fits j j_in, h.place_each)) (omega (arith, at_second, h.number_fits i i_in, h.place_each)) v (at ∙ sym at_second)

  place_second : (v : ℕ) → v ≢ get_or heap i 0 → v ≡ get_or heap j 0 → get_or after v 0 ≡ i
  unfolding after
  place_second v other at =
      first_set places (get_or new i 0) (get_or new j 0) i j (omega (arith, at_first, h.number_fits j j_in, h.place_each)) (omega (arith, at_second, h.number_fits i i_in, h.place_each)) v (λ same. other (same ∙ at_second)) (at ∙ sym at_first)

  place_other : (v : ℕ) → v ≢ get_or heap i 0 → v ≢ get_or heap j 0 → get_or after v 0 ≡ get_or places v 0
  unfolding after
  place_other v other_first other_second =
      none_set places (get_or new i 0) (get_or new j 0) i j (omega (arith, at_first, h.number_fits j j_in, h.place_each)) (omega (arith, at_second, h.number_fits i i_in, h.place_each)) v (λ same. other_first (same ∙ at_second)) (λ same. other_second (same ∙ at_first))

  -- two places with one number are one
  place_of : (k l : ℕ) → k < length heap → l < length heap → get_or heap k 0 ≡ get_or heap l 0 → k ≡ l
  place_of k l k_in l_in same = sym (h.place_back k k_in) ∙ ap (λ v. get_or places v 0) same ∙ h.place_back l l_in

  length_after : length after ≡ length places
  unfolding after
  length_after = length-set (set places (get_or new i 0) i) (get_or new j 0) j ∙ length-set places (get_or new i 0) i

  number_fits : (k : ℕ) → k < length heap → get_or new k 0 < length heap
  number_fits k k_in = elim (among i j k) [
    | first k at ↦ omega (arith, ap (λ n. get_or new n 0) at, at_first, h.number_fits j j_in)
    | second k other at ↦ omega (arith, ap (λ n. get_or new n 0) at, at_second, h.number_fits i i_in)
    | neither k other_first other_second ↦ omega (arith, elsewhere k other_first other_second, h.number_fits k k_in)
  ]

  place_fits : (v : ℕ) → v < length heap → get_or after v 0 < length heap
  place_fits v v_in = elim (among (get_or heap i 0) (get_or heap j 0) v) [
    | first v at ↦ omega (arith, place_first v at, j_in)
    | second v other at ↦ omega (arith, place_second v other at, i_in)
    | neither v other_first other_second ↦ omega (arith, place_other v other_first other_second, h.place_fits v v_in)
  ]

  place_back : (k : ℕ) → k < length heap → get_or after (get_or new k 0) 0 ≡ k
  place_back k k_in = elim (among i j k) [
    | first k at ↦ elim (eqb_tells i j) [
      | inl t ↦ place_first (get_or new k 0) (ap (λ n. get_or new n 0) (at ∙ t.1) ∙ at_second) ∙ sym (at ∙ t.1)
      | inr t ↦
          let stands : get_or new k 0 ≡ get_or heap j 0 = ap (λ n. get_or new n 0) at ∙ at_first in
          place_second (get_or new k 0) (λ same. t.1 (place_of i j i_in j_in (sym same ∙ stands))) stands ∙ sym at
    ]
    | second k other at ↦ place_first (get_or new k 0) (ap (λ n. get_or new n 0) at ∙ at_second) ∙ sym at
    | neither k other_first other_second ↦
        let stands : get_or new k 0 ≡ get_or heap k 0 = elsewhere k other_first other_second in
        place_other (get_or new k 0) (λ same. other_first (place_of k i k_in i_in (sym stands ∙ same))) (λ same. other_second (place_of k j k_in j_in (sym stands ∙ same)))
        ∙ ap (λ n. get_or places n 0) stands
        ∙ h.place_back k k_in
  ]

  number_back : (v : ℕ) → v < length heap → get_or new (get_or after v 0) 0 ≡ v
  number_back v v_in = elim (among (get_or heap i 0) (get_or heap j 0) v) [
    | first v at ↦ ap (λ n. get_or new n 0) (place_first v at) ∙ at_second ∙ sym at
    | second v other at ↦ ap (λ n. get_or new n 0) (place_second v other at) ∙ at_first ∙ sym at
    | neither v other_first other_second ↦
        let p = get_or places v 0 in
        let stands : get_or heap p 0 ≡ v = h.number_back v v_in in
        ap (λ n. get_or new n 0) (place_other v other_first other_second)
        ∙ elsewhere p (λ same. other_first (sym stands ∙ ap (λ n. get_or heap n 0) same)) (λ same. other_second (sym stands ∙ ap (λ n. get_or heap n 0) same))
        ∙ stands
  ]

  pub AreInverse-exchanged : AreInverse new (set (set places (get_or new i 0) i) (get_or new j 0) j)
  unfolding after
  AreInverse-exchanged = record {
    place_each = length_after ∙ h.place_each ∙ sym same_length;
    number_fits = λ k k_in. omega (arith, number_fits k (omega (arith, k_in, same_length)), same_length);
    place_fits = λ v v_in. omega (arith, place_fits v (omega (arith, v_in, same_length)), same_length);
    place_back = λ k k_in. place_back k (omega (arith, k_in, same_length));
    number_back = λ v v_in. number_back v (omega (arith, v_in, same_length));
  }
