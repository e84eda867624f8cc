-- An assignment satisfies the clause of a cube exactly where the cube doesn't contain the row of the inputs' values.
use Rattle.std.proofs.Common.{◌⊎◌, ◌≡◌, ℕ, zero, suc, ◌+◌, ◌-◌, ◌*◌, ◌/◌, ◌%◌, ◌^◌, ◌<◌, ◌≤◌, List, [], ◌∷◌, ◌++◌, Bool, true, false, not, cond, ◌||◌, ◌&&◌, map, take, length, get_or, min, nat_eq, bit_and, refl, ap, ◌∙◌, sym, subst, arith, inl, inr}
use Rattle.std.proofs.Math.Bool.{beq}
use Rattle.std.specs.Prelude.{All}
use Rattle.std.specs.Int.{bit_at}
use Rattle.std.specs.List.{list_any, list_all, range_with_len}
use Rattle.std.proofs.lemmas.Bool.{and_parts, eqb-true}
use Rattle.std.proofs.lemmas.Bool.Decides.{nat_tests, eqb_tells}
use Rattle.std.proofs.lemmas.List.{get_or-map, get_or-take, length-map, length-take-le}
use Rattle.std.proofs.lemmas.List.Elements.{All-head, All-tail}
use Rattle.std.proofs.lemmas.Nat.Bits.{bit_at_and, bit_at-lt, bit_at-suc, bit_at_lowest, bit_at_above, same_from_bits}
use Rattle.lls_lit.specs.Formula.{satisfies}
use Rattle.lls_rule.specs.Rule.{number_of}
use Rattle.lls_rule.proofs.Numbers.{number_of-append}
use Rattle.lls_cube.specs.declared.cube.Cube.{Cube}
use Rattle.lls_cube.specs.Cube.{contains}
use Rattle.lls_transition.specs.declared.place.Place.{Place}
use Rattle.lls_transition.specs.declared.place.Place.TheVariants.{Known}
use Rattle.lls_transition.specs.Place.{place_within, value_of}
use Rattle.lls_transition.specs.Clause.{differing, input_bit, cube_place, cube_places, cube_clause, cube_clauses, row_of}
use Rattle.lls_transition.proofs.Satisfied.{satisfied, satisfied-clause_of, satisfies-filter_map, value_of-differing}

-- bits by the last of them and those before it
pub split_last : (n : ℕ) (bits : List Bool) → length bits ≡ suc n → bits ≡ take n bits ++ get_or bits n false ∷ []
split_last n [] e = absurd (omega arith)
split_last zero (bit ∷ []) e = refl
split_last zero (bit ∷ other ∷ bits) e = absurd (omega arith)
split_last (suc n) (bit ∷ bits) e = ap (λ rest. bit ∷ rest) (split_last n bits (omega arith))

pub number_of-split : (n : ℕ) (bits : List Bool) → length bits ≡ suc n → number_of bits ≡ 2 * number_of (take n bits) + cond (get_or bits n false) 1 0
number_of-split n bits count = ap number_of (split_last n bits count) ∙ number_of-append (take n bits) (get_or bits n false)

-- the bits of twice a number and one more bit
pub lowest : (m : ℕ) (bit : Bool) → nat_eq ((2 * m + cond bit 1 0) % 2) 1 ≡ bit
lowest m true = let odd : (2 * m + 1) % 2 ≡ 1 = omega arith in rw odd refl
lowest m false = let even : (2 * m + 0) % 2 ≡ 0 = omega arith in rw even refl

pub halved : (m : ℕ) (bit : Bool) → (2 * m + cond bit 1 0) / 2 ≡ m
halved m true = omega arith
halved m false = omega arith

up_to : (i n : ℕ) → i < suc n → (i < n) ⊎ (i ≡ n)
up_to zero zero inside = inr refl
up_to zero (suc n) inside = inl (omega arith)
up_to (suc i) zero inside = absurd (omega arith)
up_to (suc i) (suc n) inside = elim (up_to i n (omega arith)) [ inl low ↦ inl (omega arith) | inr same ↦ inr (omega arith) ]

-- the bit of an input in the number of the bits
input_bit-number_of : (n : ℕ) (bits : List Bool) (i : ℕ) → length bits ≡ n → i < n → input_bit n (number_of bits) i ≡ get_or bits i false
input_bit-number_of zero bits i count inside = absurd (omega arith)
input_bit-number_of (suc n) bits i count inside =
    let before : List Bool = take n bits in
    let last : Bool = get_or bits n false in
    let split = number_of-split n bits count in
    elim (up_to i n inside) [
      | inl low ↦
          let weight : suc n - 1 - i ≡ suc (n - 1 - i) = omega (arith, low) in
          ap (λ k. nat_eq (bit_at (number_of bits) k) 1) weight
          ∙ ap (λ b. nat_eq b 1) (bit_at-suc (number_of bits) (n - 1 - i))
          ∙ ap (λ m. nat_eq (bit_at m (n - 1 - i)) 1) (ap (λ m. m / 2) split ∙ halved (number_of before) last)
          ∙ input_bit-number_of n before i (length-take-le n bits (omega (arith, count))) low
          ∙ get_or-take n bits i false low
      | inr same ↦
          let weight : suc n - 1 - i ≡ 0 = omega (arith, same) in
          ap (λ k. nat_eq (bit_at (number_of bits) k) 1) weight
          ∙ ap (λ b. nat_eq b 1) (bit_at_lowest (number_of bits))
          ∙ ap (λ m. nat_eq (m % 2) 1) split
          ∙ lowest (number_of before) last
          ∙ ap (λ k. get_or bits k false) (sym same)
    ]

-- the bit of an input in the row of the values is its value
pub input_bit-row_of : (values : List Bool) (inputs : List Place) (i : ℕ) → i < length inputs → input_bit (length inputs) (row_of values inputs) i ≡ value_of values (get_or inputs i (Known false))
input_bit-row_of values inputs i inside =
    input_bit-number_of (length inputs) (map (value_of values) inputs) i (length-map inputs (value_of values)) inside ∙ get_or-map (value_of values) inputs i (Known false) false inside

-- tests over a range
any_none : (test : ℕ → Bool) (a n : ℕ) → ((i : ℕ) → a ≤ i → i < a + n → test i ≡ false) → list_any test (range_with_len a n) ≡ false
any_none test a zero none = refl
any_none test a (suc n) none = grind (arith, nat_tests, none a (omega arith) (omega arith), any_none test (a + 1) n (λ i low high. none i (omega arith) (omega arith)))

any_each : (test : ℕ → Bool) (a n i : ℕ) → list_any test (range_with_len a n) ≡ false → a ≤ i → i < a + n → test i ≡ false
any_each test a zero i none low high = absurd (omega arith)
any_each test a (suc n) i none low high =
    let parts = neither (test a) (list_any test (range_with_len (a + 1) n)) none in
    elim (eqb_tells i a) [
      | inl t ↦ ap test t.1 ∙ parts.0
      | inr t ↦ any_each test (a + 1) n i parts.1 (omega (arith, t.1)) (omega arith)
    ]
  where
    neither : (b c : Bool) → (b || c) ≡ false → (b ≡ false) × (c ≡ false)
    neither true c e = cc
    neither false c e = (refl, e)

any_same : (test other : ℕ → Bool) (a n : ℕ) → ((i : ℕ) → a ≤ i → i < a + n → test i ≡ other i) → list_any test (range_with_len a n) ≡ list_any other (range_with_len a n)
any_same test other a zero same = refl
any_same test other a (suc n) same =
    ap (λ b. b || list_any test (range_with_len (a + 1) n)) (same a (omega arith) (omega arith))
    ∙ ap (λ b. other a || b) (any_same test other (a + 1) n (λ i low high. same i (omega arith) (omega arith)))

any-map : (values : List Bool) (f : ℕ → Place) (is : List ℕ) → list_any (value_of values) (map f is) ≡ list_any (λ i. value_of values (f i)) is
any-map values f [] = refl
any-map values f (i ∷ is) = ap (λ b. value_of values (f i) || b) (any-map values f is)

-- a literal of each input
pub within_at : (vars : ℕ) (inputs : List Place) (i : ℕ) → list_all (place_within vars) inputs ≡ true → place_within vars (get_or inputs i (Known false)) ≡ true
within_at vars [] i all = refl
within_at vars (place ∷ inputs) zero all = (and_parts _ _ all).0
within_at vars (place ∷ inputs) (suc i) all = within_at vars inputs i (and_parts _ _ all).1

-- whether an input differs from the bit that a cube cares for
abbrev is_other : ℕ → Cube → ℕ → ℕ → Bool
is_other inputs cube row i = input_bit inputs cube.care i && not (beq (input_bit inputs row i) (input_bit inputs cube.value i))

chosen : (values : List Bool) (b c : Bool) (place : Place) → value_of values place ≡ c → value_of values (cond b place (Known false)) ≡ (b && c)
chosen values true c place e = e
chosen values false c place e = refl

value_of-cube_place : (values : List Bool) (vars : ℕ) (inputs : List Place) (cube : Cube) (i : ℕ) → list_all (place_within vars) inputs ≡ true → i < length inputs
    → value_of values (cube_place inputs cube i) ≡ is_other (length inputs) cube (row_of values inputs) i
value_of-cube_place values vars inputs cube i all inside =
    let count = length inputs in
    chosen values (input_bit count cube.care i) (not (beq (input_bit count (row_of values inputs) i) (input_bit count cube.value i))) (differing (get_or inputs i (Known false)) (input_bit count cube.value i))
    (value_of-differing values vars (get_or inputs i (Known false)) (input_bit count cube.value i) (within_at vars inputs i all)
    ∙ ap (λ b. not (beq b (input_bit count cube.value i))) (sym (input_bit-row_of values inputs i inside)))

-- a cube contains a row exactly where no input differs
two_bits : (b c : Bool) → beq b c ≡ true → b ≡ c
two_bits true true e = refl
two_bits true false e = cc
two_bits false true e = cc
two_bits false false e = refl

beq-same : (b : Bool) → beq b b ≡ true
beq-same true = refl
beq-same false = refl

not-true : (b : Bool) → not b ≡ false → b ≡ true
not-true true e = refl
not-true false e = cc

same_small : (n v : ℕ) → n < 2 → v < 2 → nat_eq n 1 ≡ nat_eq v 1 → n ≡ v
same_small n v n_in v_in same = elim (eqb_tells n 1) [
  | inl t ↦ t.1 ∙ sym (eqb-true v 1 (sym same ∙ t.0))
  | inr t ↦ elim (eqb_tells v 1) [
    | inl u ↦ absurd (t.1 (eqb-true n 1 (same ∙ u.0)))
    | inr u ↦ omega (arith, t.1, u.1)
  ]
]

same_min : (n v c : ℕ) → n < 2 → v < 2 → c < 2 → (nat_eq c 1 && not (beq (nat_eq n 1) (nat_eq v 1))) ≡ false → min n c ≡ min v c
same_min n v c n_in v_in c_in same = elim (eqb_tells c 1) [
  | inl t ↦ ap (λ m. min m c) (same_small n v n_in v_in (two_bits _ _ (not-true _ (ap (λ b. b && not (beq (nat_eq n 1) (nat_eq v 1))) (sym t.0) ∙ same))))
  | inr t ↦ omega (arith, t.1)
]

min_one : (n c : ℕ) → n < 2 → c ≡ 1 → min n c ≡ n
min_one n c n_in e = omega arith

not_other : (n v c : ℕ) → n < 2 → v < 2 → c < 2 → min n c ≡ min v c → (nat_eq c 1 && not (beq (nat_eq n 1) (nat_eq v 1))) ≡ false
not_other n v c n_in v_in c_in same = elim (eqb_tells c 1) [
  | inl t ↦
      let equal : n ≡ v = sym (min_one n c n_in t.1) ∙ same ∙ min_one v c v_in t.1 in
      ap (λ b. b && not (beq (nat_eq n 1) (nat_eq v 1))) t.0 ∙ ap (λ m. not (beq (nat_eq m 1) (nat_eq v 1))) equal ∙ ap not (beq-same (nat_eq v 1))
  | inr t ↦ ap (λ b. b && not (beq (nat_eq n 1) (nat_eq v 1))) t.0
]

none_above : (a b : ℕ) → b ≡ 0 → min a b ≡ 0
none_above a b e = omega arith

below_or_above : (j n : ℕ) → (j < n) ⊎ (n ≤ j)
below_or_above zero zero = inr (omega arith)
below_or_above zero (suc n) = inl (omega arith)
below_or_above (suc j) zero = inr (omega arith)
below_or_above (suc j) (suc n) = elim (below_or_above j n) [ inl low ↦ inl (omega arith) | inr high ↦ inr (omega arith) ]

masked_bit : (n row j : ℕ) (cube : Cube) → cube.care < 2 ^ n → ((i : ℕ) → i < n → is_other n cube row i ≡ false) → min (bit_at row j) (bit_at cube.care j) ≡ min (bit_at cube.value j) (bit_at cube.care j)
masked_bit n row j cube small none = elim (below_or_above j n) [
  | inl low ↦
      let at : n - 1 - (n - 1 - j) ≡ j = omega (arith, low) in
      same_min (bit_at row j) (bit_at cube.value j) (bit_at cube.care j) (bit_at-lt row j) (bit_at-lt cube.value j) (bit_at-lt cube.care j)
      (subst (λ k. (nat_eq (bit_at cube.care k) 1 && not (beq (nat_eq (bit_at row k) 1) (nat_eq (bit_at cube.value k) 1))) ≡ false) at (none (n - 1 - j) (omega (arith, low))))
  | inr high ↦
      let off = bit_at_above cube.care n j small high in
      none_above (bit_at row j) (bit_at cube.care j) off ∙ sym (none_above (bit_at cube.value j) (bit_at cube.care j) off)
]

contains-none : (n row : ℕ) (cube : Cube) → cube.care < 2 ^ n → ((i : ℕ) → i < n → is_other n cube row i ≡ false) → contains row cube ≡ true
contains-none n row cube small none =
    let same : bit_and row cube.care ≡ bit_and cube.value cube.care =
    same_from_bits _ _ (λ j. bit_at_and row cube.care j ∙ masked_bit n row j cube small none ∙ sym (bit_at_and cube.value cube.care j)) in
    grind (arith, nat_tests, same)

none-contains : (n row : ℕ) (cube : Cube) → contains row cube ≡ true → (i : ℕ) → i < n → is_other n cube row i ≡ false
none-contains n row cube inside i below =
    let j : ℕ = n - 1 - i in
    let same : bit_and row cube.care ≡ bit_and cube.value cube.care = eqb-true _ _ inside in
    not_other (bit_at row j) (bit_at cube.value j) (bit_at cube.care j) (bit_at-lt row j) (bit_at-lt cube.value j) (bit_at-lt cube.care j)
    (sym (bit_at_and row cube.care j) ∙ ap (λ m. bit_at m j) same ∙ bit_at_and cube.value cube.care j)

opposite : (a b : Bool) → (a ≡ false → b ≡ true) → (b ≡ true → a ≡ false) → a ≡ not b
opposite true true f g = g refl
opposite true false f g = refl
opposite false true f g = refl
opposite false false f g = f refl

any_other : (n row : ℕ) (cube : Cube) → cube.care < 2 ^ n → list_any (is_other n cube row) (range_with_len 0 n) ≡ not (contains row cube)
any_other n row cube small =
    opposite _ _ (λ none. contains-none n row cube small (λ i below. any_each (is_other n cube row) 0 n i none (omega arith) (omega (arith, below))))
    (λ inside. any_none (is_other n cube row) 0 n (λ i low high. none-contains n row cube inside i (omega (arith, high))))

-- an assignment satisfies the clauses of cubes exactly where none of them contains the row of the inputs' values
satisfied-cube_clause : (values : List Bool) (vars : ℕ) (inputs : List Place) (cube : Cube) → list_all (place_within vars) inputs ≡ true → cube.care < 2 ^ length inputs
    → satisfied values (cube_clause inputs cube) ≡ not (contains (row_of values inputs) cube)
unfolding cube_places
satisfied-cube_clause values vars inputs cube all small =
    let count = length inputs in
    satisfied-clause_of values (map (cube_place inputs cube) (range_with_len 0 count))
    ∙ any-map values (cube_place inputs cube) (range_with_len 0 count)
    ∙ any_same (λ i. value_of values (cube_place inputs cube i)) (is_other count cube (row_of values inputs)) 0 count (λ i low high. value_of-cube_place values vars inputs cube i all (omega (arith, high)))
    ∙ any_other count (row_of values inputs) cube small

none-cubes : (values : List Bool) (vars : ℕ) (inputs : List Place) (cubes : List Cube) → list_all (place_within vars) inputs ≡ true → All (λ cube. cube.care < 2 ^ length inputs) cubes
    → list_all (λ cube. satisfied values (cube_clause inputs cube)) cubes ≡ not (list_any (contains (row_of values inputs)) cubes)
none-cubes values vars inputs [] all small = refl
none-cubes values vars inputs (cube ∷ cubes) all small =
    ap (λ b. b && list_all (λ cube. satisfied values (cube_clause inputs cube)) cubes) (satisfied-cube_clause values vars inputs cube all (All-head (λ cube. cube.care < 2 ^ length inputs) cube cubes small))
    ∙ ap (λ b. not (contains (row_of values inputs) cube) && b) (none-cubes values vars inputs cubes all (All-tail (λ cube. cube.care < 2 ^ length inputs) cube cubes small))
    ∙ not_or (contains (row_of values inputs) cube) (list_any (contains (row_of values inputs)) cubes)
  where
    not_or : (b c : Bool) → (not b && not c) ≡ not (b || c)
    not_or true c = refl
    not_or false c = refl

pub satisfies-cube_clauses : (values : List Bool) (vars : ℕ) (inputs : List Place) (cubes : List Cube) → list_all (place_within vars) inputs ≡ true → All (λ cube. cube.care < 2 ^ length inputs) cubes
    → satisfies values (cube_clauses inputs cubes) ≡ not (list_any (contains (row_of values inputs)) cubes)
satisfies-cube_clauses values vars inputs cubes all small =
    satisfies-filter_map values (cube_clause inputs) cubes ∙ none-cubes values vars inputs cubes all small
