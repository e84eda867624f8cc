-- Counts of at most six digits.
use Rattle.std.proofs.Common.{◌≡◌, ◌<◌, ◌≤◌, ◌-◌, ◌^◌, ℕ, Bool, true, false, cond, eqb, get_or, refl, List, [], ◌∷◌, length, ap, ◌∙◌, arith}
use Rattle.std.specs.Prelude.{nat_le, not}
use Rattle.std.specs.List.{list_all}
use Rattle.std.specs.Char.{is_ascii_digit}
use Rattle.std.specs.Str.Parse.{AllDigits, digits_value}
use Rattle.std.specs.Int.{IsInRange}
use Rattle.std.proofs.lemmas.Bool.{and_parts}
use Rattle.std.proofs.lemmas.Bool.Decides.{nat_tests}
use Rattle.std.proofs.lemmas.Str.{digit_value_digit}
use Rattle.std.proofs.lemmas.Int.Digits.{digits_value-lt}
use Rattle.std.proofs.Math.Nat.{pow-le-pow_right}
use Rattle.lls_text.specs.Digits.{is_digits}
use Rattle.lls_rle.specs.declared.item.Tag.TheVariants as tag
use Rattle.lls_rle.specs.declared.parts.Part.TheVariants as part
use Rattle.lls_rle.specs.Parts.{part_of, count_part, tag_part}

digit_range : (b : ℕ) → is_ascii_digit b ≡ true → IsInRange 48 57 b
digit_range b e = grind (arith, nat_tests)

all_digits : (ds : List ℕ) → list_all is_ascii_digit ds ≡ true → AllDigits 10 ds
all_digits [] all = tt
all_digits (b ∷ bs) all =
    let parts = and_parts (is_ascii_digit b) (list_all is_ascii_digit bs) all in
    let range = digit_range b parts.0 in
    (omega (arith, digit_value_digit b range, range), all_digits bs parts.1)

pub digits_alone : (ds : List ℕ) → is_digits ds ≡ true → list_all is_ascii_digit ds ≡ true
digits_alone ds e = (and_parts (not (eqb (length ds) 0)) (list_all is_ascii_digit ds) e).1

pub small_value : (ds : List ℕ) → is_digits ds ≡ true → length ds ≤ 6 → digits_value 10 ds < 1000000
small_value ds e few =
    let below = digits_value-lt 10 ds (all_digits ds (digits_alone ds e)) in
    let power : 10 ^ length ds ≤ 10 ^ 6 = pow-le-pow_right {n = 10} (omega arith) {i = length ds} {j = 6} few in
    omega (arith, below, power)

pub counted : (text : List ℕ) (n : ℕ) → n ≡ digits_value 10 text → length text ≤ 6 → (n ≡ 0 → ⊥) → part.Count n ≡ count_part text
counted text n is few some =
    let short : nat_le 7 (length text) ≡ false = not_le 7 (length text) (omega (arith, few)) in
    let positive : eqb (digits_value 10 text) 0 ≡ false = not_zero (digits_value 10 text) (λ zero. some (is ∙ zero)) in
    rw (short, positive) (ap (λ k. part.Count k) is) where
      not_le : (a b : ℕ) → b < a → nat_le a b ≡ false
      not_le a b less = grind (arith, nat_tests)

      not_zero : (k : ℕ) → (k ≡ 0 → ⊥) → eqb k 0 ≡ false
      not_zero k some = grind (arith, nat_tests)

-- what a count is between
abbrev pub IsCount : ℕ → Type 0
IsCount n = (1 ≤ n) × (n ≤ 999999)

by_tests : (long zero : Bool) (k value n : ℕ) → cond long (part.Bad 6) (cond zero (part.Bad k) (part.Count value)) ≡ part.Count n → (long ≡ false) × (zero ≡ false) × (value ≡ n)
by_tests true zero k value n e = absurd cc
by_tests false true k value n e = absurd cc
by_tests false false k value n e = (refl, refl, cc)

no_count : (b n : ℕ) → tag_part b ≡ part.Count n → ⊥
no_count b n e = by_bytes (eqb b 98) (eqb b 111) (eqb b 36) (eqb b 33) e where
  by_bytes : (p q r s : Bool) → cond p (part.Run tag.Dead) (cond q (part.Run tag.Live) (cond r (part.Run tag.RowEnd) (cond s part.End (part.Bad 0)))) ≡ part.Count n → ⊥
  by_bytes true q r s e = cc
  by_bytes false true r s e = cc
  by_bytes false false true s e = cc
  by_bytes false false false true e = cc
  by_bytes false false false false e = cc

pub IsCount-part_of : (text : List ℕ) (n : ℕ) → part_of text ≡ part.Count n → IsCount n
IsCount-part_of text n e =
    elim (is_digits text) as (λ v. is_digits text ≡ v → cond v (count_part text) (tag_part (get_or text 0 0)) ≡ part.Count n → IsCount n) [
      | true ↦ λ digits is.
          let tests = by_tests (nat_le 7 (length text)) (eqb (digits_value 10 text) 0) (length text - 1) (digits_value 10 text) n is in
          let small = small_value text digits (short (length text) tests.0) in
          (omega (arith, positive (digits_value 10 text) tests.1, tests.2), omega (arith, small, tests.2))
      | false ↦ λ digits is. absurd (no_count (get_or text 0 0) n is)
    ] refl e where
      short : (a : ℕ) → nat_le 7 a ≡ false → a ≤ 6
      short a e = grind (arith, nat_tests)

      positive : (a : ℕ) → eqb a 0 ≡ false → 1 ≤ a
      positive a e = grind (arith, nat_tests)
