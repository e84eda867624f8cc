-- Numbers in bytes, one after another.
use Rattle.std.proofs.Common.{◌≡◌, ◌<◌, ◌≤◌, ◌+◌, ◌*◌, ◌%◌, ℕ, zero, suc, eqb, leb, true, false, not, cond, List, [], ◌∷◌, ◌++◌, length, take, drop, get_or, min, Some, None, refl, sym, ap, ◌∙◌, append_assoc, arith}
use Rattle.std.specs.Prelude.{ℤ, Result, Ok, Err}
use Rattle.std.specs.List.{position_or_len}
use Rattle.std.proofs.lemmas.List.{drop_more}
use Rattle.std.proofs.lemmas.Bool.{lt-leb}
use Rattle.std.proofs.lemmas.Bool.Decides.{nat_tests}
use Rattle.lls_base.specs.Results.{and_then}
use Rattle.lls_drat.specs.declared.drat_fault.DratFault.{DratFault}
use Rattle.lls_drat.specs.declared.drat_fault.DratFault.TheVariants.{Range}
use Rattle.lls_drat.specs.Number.{PlacedNumber, is_last, before_number, numbers_from, number_value, literal_in_bytes}
use Rattle.lls_drat.specs.Numbers.{next_number, first_len}
use Rattle.lls_drat.specs.Stretch.{in_range, literals}

-- the literals before those that are still read
abbrev pub with_front : List ℤ → Result (List ℤ) DratFault → Result (List ℤ) DratFault
with_front front rest = and_then rest (λ lits. Ok (front ++ lits))

with_front-push : (front : List ℤ) (l : ℤ) (rest : Result (List ℤ) DratFault) → with_front (front ++ l ∷ []) rest ≡ with_front front (and_then rest (λ ls. Ok (l ∷ ls)))
with_front-push front l (Ok ls) = ap Ok (append_assoc front (l ∷ []) ls)
with_front-push front l (Err fault) = refl

-- one literal more
pub literals-step : (numbers : List PlacedNumber) (front : List ℤ) (l : ℤ) → Ok (Some l) ≡ next_number numbers → with_front (front ++ l ∷ []) (literals (drop 1 numbers)) ≡ with_front front (literals numbers)
literals-step [] front l e = absurd cc
literals-step (number ∷ numbers) front l e =
    with_front-push front l (literals numbers) ∙ ap (with_front front) (sym (first (in_range number.place (literal_in_bytes number.bytes)) e))
  where
    first : (r : Result ℤ DratFault) → Ok (Some l) ≡ and_then r (λ m. Ok (Some m)) → and_then r (λ m. and_then (literals numbers) (λ ls. Ok (m ∷ ls))) ≡ and_then (literals numbers) (λ ls. Ok (l ∷ ls))
    first (Ok m) h = let same : l ≡ m = cc in rw same refl
    first (Err fault) h = absurd cc

pub literals-fault : (numbers : List PlacedNumber) (front : List ℤ) (fault : DratFault) → Err fault ≡ next_number numbers → with_front front (literals numbers) ≡ Err fault
literals-fault [] front fault e = absurd cc
literals-fault (number ∷ numbers) front fault e = first (in_range number.place (literal_in_bytes number.bytes)) e where
  first : (r : Result ℤ DratFault) → Err fault ≡ and_then r (λ m. Ok (Some m)) → with_front front (and_then r (λ m. and_then (literals numbers) (λ ls. Ok (m ∷ ls)))) ≡ Err fault
  first (Ok m) h = absurd cc
  first (Err other) h = cc

pub literals-done : (numbers : List PlacedNumber) → Ok None ≡ next_number numbers → literals numbers ≡ Ok []
literals-done [] e = refl
literals-done (number ∷ numbers) e = absurd (first (in_range number.place (literal_in_bytes number.bytes)) e) where
  first : (r : Result ℤ DratFault) → Ok None ≡ and_then r (λ m. Ok (Some m)) → ⊥
  first (Ok m) h = cc
  first (Err other) h = cc

pub fewer : (numbers : List PlacedNumber) (l : ℤ) → Ok (Some l) ≡ next_number numbers → length (drop 1 numbers) < length numbers
fewer [] l e = absurd cc
fewer (number ∷ numbers) l e = omega arith

abbrev fronts : List ℕ → ℕ
fronts bytes = position_or_len is_last bytes

IsFirst : ℕ → List ℕ → Type 0
IsFirst place bytes = numbers_from place bytes ≡ record { place = place; bytes = take (first_len bytes) bytes } ∷ numbers_from (place + first_len bytes) (drop (first_len bytes) bytes)

first_step : (place b : ℕ) (bs : List ℕ) → (0 < length bs → IsFirst (place + 1) bs) → IsFirst place (b ∷ bs)
unfolding IsFirst
first_step place b [] more =
    elim (is_last b) as (λ v. cond v (record { place = place; bytes = b ∷ [] } ∷ []) (before_number place b []) ≡ record { place = place; bytes = take (min (length (b ∷ [])) (cond (not v) (1 + 0) 0 + 1)) (b ∷ []) } ∷ numbers_from (place + min (length (b ∷ [])) (cond (not v) (1 + 0) 0 + 1)) (drop (min (length (b ∷ [])) (cond (not v) (1 + 0) 0 + 1)) (b ∷ []))) [ true ↦ refl | false ↦ refl ]
first_step place b (c ∷ bs) more =
    let rest = c ∷ bs in
    let m = first_len rest in
    let one : min (length (b ∷ rest)) (0 + 1) ≡ 1 = omega arith in
    let many : min (length (b ∷ rest)) ((1 + fronts rest) + 1) ≡ suc m = omega arith in
    let sum : place + suc m ≡ (place + 1) + m = omega arith in
    elim (is_last b) as (λ v. cond v (record { place = place; bytes = b ∷ [] } ∷ numbers_from (place + 1) rest) (before_number place b (numbers_from (place + 1) rest)) ≡ record { place = place; bytes = take (min (length (b ∷ rest)) (cond (not v) (1 + fronts rest) 0 + 1)) (b ∷ rest) } ∷ numbers_from (place + min (length (b ∷ rest)) (cond (not v) (1 + fronts rest) 0 + 1)) (drop (min (length (b ∷ rest)) (cond (not v) (1 + fronts rest) 0 + 1)) (b ∷ rest))) [
      | true ↦ rw one refl
      | false ↦ rw (many, sum) (ap (before_number place b) (more (omega arith)))
    ]

first : (place : ℕ) (bytes : List ℕ) → 0 < length bytes → IsFirst place bytes
first place [] some = absurd (omega arith)
first place (b ∷ bs) some = first_step place b bs (first (place + 1) bs)

-- the first number stands before the others
pub numbers_from-first : (place : ℕ) (bytes : List ℕ) → 0 < length bytes → numbers_from place bytes ≡ record { place = place; bytes = take (first_len bytes) bytes } ∷ numbers_from (place + first_len bytes) (drop (first_len bytes) bytes)
unfolding IsFirst
numbers_from-first place bytes some = first place bytes some

-- the literal of the first number, or its fault, and the numbers behind it
pub next_number-literal : (place : ℕ) (bytes : List ℕ) (l : ℤ) → 0 < length bytes → literal_in_bytes (take (first_len bytes) bytes) ≡ Some l → next_number (numbers_from place bytes) ≡ Ok (Some l)
next_number-literal place bytes l some e = ap next_number (numbers_from-first place bytes some) ∙ ap (λ o. and_then (in_range place o) (λ m. Ok (Some m))) e

pub next_number-range : (place : ℕ) (bytes : List ℕ) → 0 < length bytes → literal_in_bytes (take (first_len bytes) bytes) ≡ None → next_number (numbers_from place bytes) ≡ Err (Range place)
next_number-range place bytes some e = ap next_number (numbers_from-first place bytes some) ∙ ap (λ o. and_then (in_range place o) (λ m. Ok (Some m))) e

pub numbers_from-behind : (place len : ℕ) (bytes behind : List ℕ) → 0 < length bytes → len ≡ first_len bytes → behind ≡ drop (first_len bytes) bytes → numbers_from (place + len) behind ≡ drop 1 (numbers_from place bytes)
numbers_from-behind place len bytes behind some e rest = rw (e, rest, numbers_from-first place bytes some) refl

-- what a test for no bytes tells
pub some_if : (bytes : List ℕ) → eqb (length bytes) 0 ≡ false → 0 < length bytes
some_if bytes e = grind (arith, nat_tests)

-- more bytes write no smaller number
pub number_value-drop : (bytes : List ℕ) (k : ℕ) → number_value (drop k bytes) ≤ number_value bytes
number_value-drop [] zero = omega arith
number_value-drop [] (suc k) = omega arith
number_value-drop (b ∷ bs) zero = omega arith
number_value-drop (b ∷ bs) (suc k) = let rest = number_value-drop bs k in omega (arith, rest)

pub number_value-more : (bytes : List ℕ) (k : ℕ) → k < length bytes → number_value (drop k bytes) ≡ number_value (drop (k + 1) bytes) * 128 + get_or bytes k 0 % 128
number_value-more bytes k lt = ap number_value (drop_more bytes k 0 lt) ∙ omega arith

-- a number that is too large
pub too_large : (bytes : List ℕ) (k most : ℕ) → most < number_value (drop k bytes) → cond (leb (number_value bytes) most) (Some (number_value bytes)) None ≡ None
too_large bytes k most gt = rw (lt-leb (number_value bytes) most (omega (arith, gt, number_value-drop bytes k))) refl
