-- A number, and the literals of a lemma, are written in bytes in one way.
use Rattle.std.proofs.Common.{◌≡◌, ℕ, zero, suc, ◌+◌, ◌*◌, ◌/◌, ◌%◌, ◌<◌, ◌≤◌, Bool, true, false, not, ◌||◌, ◌&&◌, cond, eqb, leb, ltb, List, [], ◌∷◌, ◌++◌, Option, Some, None, refl, sym, ap, ◌∙◌, arith}
use Rattle.std.specs.Prelude.{ℤ, pos, Result, Ok, Err}
use Rattle.std.specs.List.{list_all, flat_map}
use Rattle.std.proofs.lemmas.Bool.{and_parts}
use Rattle.std.proofs.lemmas.Bool.Decides.{nat_tests}
use Rattle.lls_base.specs.Results.{and_then}
use Rattle.lls_lit.specs.Literal.{negation}
use Rattle.lls_lit.specs.declared.var.TheConstants.Var.{MOST}
use Rattle.lls_drat.specs.declared.drat_fault.DratFault.{DratFault}
use Rattle.lls_drat.specs.Number.{PlacedNumber, before_number, numbers_from, is_last, is_whole, number_value, literal_of_code, is_code, literal_in_bytes}
use Rattle.lls_drat.specs.Stretch.{in_range, literals}
use Rattle.lls_drat.specs.Written.{number_bytes, code_of, literal_bytes}
use Rattle.lls_drat.proofs.WrittenNumbers.{fits, four_fit}

-- a byte other than 0
abbrev pub is_some : ℕ → Bool
is_some b = ltb 0 b && ltb b 256

abbrev is_nil : List ℕ → Bool
is_nil [] = true
is_nil (b ∷ bs) = false

-- the bytes of a number: the last alone is below 128
abbrev is_number : List ℕ → Bool
is_number [] = false
is_number (b ∷ bs) = cond (ltb b 128) (is_nil bs && ltb 0 b) (ltb b 256 && is_number bs)

no_right : (a : Bool) → (a && false) ≡ true → ⊥
no_right true e = cc
no_right false e = cc

positive : (bytes : List ℕ) → is_number bytes ≡ true → 0 < number_value bytes
positive [] e = absurd cc
positive (b ∷ []) e = elim (ltb b 128) as (λ v. ltb b 128 ≡ v → cond v (true && ltb 0 b) (ltb b 256 && false) ≡ true → 0 < number_value (b ∷ [])) [
  | true ↦ λ is h. grind (arith, nat_tests)
  | false ↦ λ _ h. absurd (no_right (ltb b 256) h)
] refl e
positive (b ∷ c ∷ bs) e = elim (ltb b 128) as (λ v. cond v (false && ltb 0 b) (ltb b 256 && is_number (c ∷ bs)) ≡ true → 0 < number_value (b ∷ c ∷ bs)) [
  | true ↦ λ h. absurd cc
  | false ↦ λ h. let rest = positive (c ∷ bs) (and_parts (ltb b 256) (is_number (c ∷ bs)) h).1 in omega (arith, rest)
] e

one_byte : (most b n : ℕ) → n ≡ b → ltb b 128 ≡ true → number_bytes (suc most) n ≡ b ∷ []
one_byte most b n e is = rw (e, is) refl

more_bytes : (most b n v : ℕ) (bytes : List ℕ) → n ≡ b % 128 + 128 * v → 0 < v → ltb b 128 ≡ false → ltb b 256 ≡ true → number_bytes most v ≡ bytes → number_bytes (suc most) n ≡ b ∷ bytes
more_bytes most b n v bytes e some low high rest =
    let top : ltb n 128 ≡ false = grind (arith, nat_tests) in
    let back : n % 128 + 128 ≡ b = grind (arith, nat_tests) in
    let behind : n / 128 ≡ v = omega arith in
    rw (top, back, behind, rest) refl

fits_more : (most n v : ℕ) → ltb n 128 ≡ false → n / 128 ≡ v → fits (suc most) n ≡ true → fits most v ≡ true
fits_more most n v top behind e = let h = rw top at e in rw behind at h

-- a number's bytes are those of its value
number_again : (most : ℕ) (bytes : List ℕ) → is_number bytes ≡ true → fits most (number_value bytes) ≡ true → number_bytes most (number_value bytes) ≡ bytes
number_again zero bytes e f = absurd cc
number_again (suc most) [] e f = absurd cc
number_again (suc most) (b ∷ []) e f = elim (ltb b 128) as (λ v. ltb b 128 ≡ v → cond v (true && ltb 0 b) (ltb b 256 && false) ≡ true → number_bytes (suc most) (number_value (b ∷ [])) ≡ b ∷ []) [
  | true ↦ λ is _. one_byte most b (number_value (b ∷ [])) (let same : b % 128 + 128 * 0 ≡ b = grind (arith, nat_tests) in same) is
  | false ↦ λ _ h. absurd (no_right (ltb b 256) h)
] refl e
number_again (suc most) (b ∷ c ∷ bs) e f = elim (ltb b 128) as (λ v. ltb b 128 ≡ v → cond v (false && ltb 0 b) (ltb b 256 && is_number (c ∷ bs)) ≡ true → number_bytes (suc most) (number_value (b ∷ c ∷ bs)) ≡ b ∷ c ∷ bs) [
  | true ↦ λ _ h. absurd cc
  | false ↦ λ low h.
      let parts = and_parts (ltb b 256) (is_number (c ∷ bs)) h in
      let v = number_value (c ∷ bs) in
      let n = number_value (b ∷ c ∷ bs) in
      let some : 0 < v = positive (c ∷ bs) parts.1 in
      let top : ltb n 128 ≡ false = large (b % 128) v some in
      let behind : n / 128 ≡ v = high b v in
      more_bytes most b n v (c ∷ bs) refl some low parts.0 (number_again most (c ∷ bs) parts.1 (fits_more most n v top behind f))
] refl e
  where
    large : (low v : ℕ) → 0 < v → ltb (low + 128 * v) 128 ≡ false
    large low v some = grind (arith, nat_tests)

    high : (b v : ℕ) → (b % 128 + 128 * v) / 128 ≡ v
    high b v = omega arith

-- all bytes are those of the numbers
front_bytes : (place b : ℕ) (numbers : List PlacedNumber) → flat_map (λ n. n.bytes) (before_number place b numbers) ≡ b ∷ flat_map (λ n. n.bytes) numbers
front_bytes place b [] = refl
front_bytes place b (number ∷ numbers) = refl

pub bytes_of_numbers : (place : ℕ) (bytes : List ℕ) → flat_map (λ n. n.bytes) (numbers_from place bytes) ≡ bytes
bytes_of_numbers place [] = refl
bytes_of_numbers place (b ∷ bs) = elim (is_last b) as (λ v. flat_map (λ n. n.bytes) (cond v (record { place = place; bytes = b ∷ [] } ∷ numbers_from (place + 1) bs) (before_number place b (numbers_from (place + 1) bs))) ≡ b ∷ bs) [
  | true ↦ ap (λ (t : List ℕ). b ∷ t) (bytes_of_numbers (place + 1) bs)
  | false ↦ front_bytes place b (numbers_from (place + 1) bs) ∙ ap (λ (t : List ℕ). b ∷ t) (bytes_of_numbers (place + 1) bs)
]

abbrev pub is_well : PlacedNumber → Bool
is_well number = not (is_whole number.bytes) || is_number number.bytes

well_front : (place b : ℕ) (numbers : List PlacedNumber) → ltb b 128 ≡ false → ltb b 256 ≡ true → list_all is_well numbers ≡ true → list_all is_well (before_number place b numbers) ≡ true
well_front place b [] top high all = rw top refl
well_front place b (number ∷ numbers) top high all = rw (top, high) all

pub are_well : (place : ℕ) (bytes : List ℕ) → list_all is_some bytes ≡ true → list_all is_well (numbers_from place bytes) ≡ true
are_well place [] all = refl
are_well place (b ∷ bs) all =
    let parts = and_parts (is_some b) (list_all is_some bs) all in
    let one = and_parts (ltb 0 b) (ltb b 256) parts.0 in
    let rest = are_well (place + 1) bs parts.1 in
    elim (ltb b 128) as (λ v. ltb b 128 ≡ v → list_all is_well (cond v (record { place = place; bytes = b ∷ [] } ∷ numbers_from (place + 1) bs) (before_number place b (numbers_from (place + 1) bs))) ≡ true) [
      | true ↦ λ is. rw (is, one.0, rest) refl
      | false ↦ λ is. well_front place b (numbers_from (place + 1) bs) is one.1 rest
    ] refl

-- a literal's bytes
minus_code : (m : ℕ) → 0 < m → code_of (negation (pos m)) ≡ 2 * m + 1
minus_code zero some = absurd (omega arith)
minus_code (suc m) some = omega arith

code_again : (n : ℕ) → is_code n ≡ true → code_of (literal_of_code n) ≡ n
code_again n e =
    let parts = and_parts (leb 1 (n / 2)) (leb (n / 2) MOST) e in
    elim (eqb (n % 2) 0) as (λ v. eqb (n % 2) 0 ≡ v → code_of (cond v (pos (n / 2)) (negation (pos (n / 2)))) ≡ n) [
      | true ↦ λ is. grind (arith, nat_tests)
      | false ↦ λ is.
          let some : 0 < n / 2 = grind (arith, nat_tests) in
          let odd : 2 * (n / 2) + 1 ≡ n = grind (arith, nat_tests) in
          minus_code (n / 2) some ∙ odd
    ] refl

literal_bytes_again : (bytes : List ℕ) (l : ℤ) → (not (is_whole bytes) || is_number bytes) ≡ true → literal_in_bytes bytes ≡ Some l → literal_bytes l ≡ bytes
literal_bytes_again bytes l well e =
    let n = number_value bytes in
    elim (is_whole bytes && is_code n) as (λ v. (is_whole bytes && is_code n) ≡ v → cond v (Some (literal_of_code n)) None ≡ Some l → literal_bytes l ≡ bytes) [
      | true ↦ λ is h.
          let parts = and_parts (is_whole bytes) (is_code n) is in
          let same : literal_of_code n ≡ l = cc in
          let number : is_number bytes ≡ true = rw parts.0 at well in
          let bounds = and_parts (leb 1 (n / 2)) (leb (n / 2) MOST) parts.1 in
          let small : n ≤ 33554433 = below n bounds.1 in
          ap literal_bytes (sym same) ∙ ap (λ (k : ℕ). number_bytes 4 k) (code_again n parts.1) ∙ number_again 4 bytes number (four_fit n small)
      | false ↦ λ _ h. absurd cc
    ] refl e
  where
    below : (n : ℕ) → leb (n / 2) 16777216 ≡ true → n ≤ 33554433
    below n e = grind (arith, nat_tests)

pub literals_bytes_again : (numbers : List PlacedNumber) (lits : List ℤ) → list_all is_well numbers ≡ true → literals numbers ≡ Ok lits → flat_map literal_bytes lits ≡ flat_map (λ n. n.bytes) numbers
literals_bytes_again [] lits well e = let none : [] ≡ lits = cc in rw (← none) refl
literals_bytes_again (number ∷ numbers) lits well e =
    let parts = and_parts (is_well number) (list_all is_well numbers) well in
    go (literal_in_bytes number.bytes) (literals numbers) (λ l h. literal_bytes_again number.bytes l parts.0 h) (λ ls h. literals_bytes_again numbers ls parts.1 h) e
  where
    go : (o : Option ℤ) (r : Result (List ℤ) DratFault) → ((l : ℤ) → o ≡ Some l → literal_bytes l ≡ number.bytes) → ((ls : List ℤ) → r ≡ Ok ls → flat_map literal_bytes ls ≡ flat_map (λ n. n.bytes) numbers)
        → and_then (in_range number.place o) (λ l. and_then r (λ ls. Ok (l ∷ ls))) ≡ Ok lits → flat_map literal_bytes lits ≡ number.bytes ++ flat_map (λ n. n.bytes) numbers
    go None r first rest h = absurd cc
    go (Some l) (Err fault) first rest h = absurd cc
    go (Some l) (Ok ls) first rest h = let same : l ∷ ls ≡ lits = cc in rw (← same, first l refl, rest ls refl) refl
