-- The number that digits write, one digit after another, kept within 64 bits.
use Rattle.std.proofs.Common.{◌≡◌, ℕ, ◌+◌, ◌-◌, ◌*◌, ◌^◌, ◌<◌, true, false, min, List, length, get_or, take, refl, sym, ◌∙◌, arith}
use Rattle.std.specs.List.{list_all}
use Rattle.std.specs.Char.{is_ascii_digit, digit_value}
use Rattle.std.specs.Str.Parse.{digits_value}
use Rattle.std.specs.Int.{IsInRange}
use Rattle.std.proofs.lemmas.Bool.Decides.{nat_tests}
use Rattle.std.proofs.lemmas.List.Folds.{list_all_at}
use Rattle.std.proofs.lemmas.Str.{digit_value_digit}
use Rattle.std.proofs.lemmas.Int.Digits.{digits_value_more}

-- a number kept at most m, and one digit more
capped_next : (v d m : ℕ) → min (min (min v m * 10) m + d) m ≡ min (v * 10 + d) m
capped_next v d m = omega arith

digit_at : (digits : List ℕ) (i : ℕ) → i < length digits → list_all is_ascii_digit digits ≡ true → is_ascii_digit (get_or digits i 0) ≡ true
digit_at digits i lt all =
    elim (is_ascii_digit (get_or digits i 0)) as (λ b. is_ascii_digit (get_or digits i 0) ≡ b → b ≡ true) [
      | true ↦ λ _. refl
      | false ↦ λ none. sym (list_all_at is_ascii_digit digits i 0 lt none) ∙ all
    ] refl

pub digit_range : (b : ℕ) → is_ascii_digit b ≡ true → IsInRange 48 57 b
digit_range b e = grind (arith, nat_tests)

pub capped_digits : (digits : List ℕ) (i size : ℕ) → i < length digits → list_all is_ascii_digit digits ≡ true → size ≡ min (digits_value 10 (take i digits)) (2 ^ 64 - 1)
    → min (min (size * 10) (2 ^ 64 - 1) + (get_or digits i 0 - 48)) (2 ^ 64 - 1) ≡ min (digits_value 10 (take (i + 1) digits)) (2 ^ 64 - 1)
capped_digits digits i size lt all e =
    let b = get_or digits i 0 in
    let v = digits_value 10 (take i digits) in
    let digit : digit_value b + 48 ≡ b = digit_value_digit b (digit_range b (digit_at digits i lt all)) in
    let same : b - 48 ≡ digit_value b = omega (arith, digit) in
    rw (e, same, digits_value_more 10 digits i lt) (capped_next v (digit_value b) (2 ^ 64 - 1))
