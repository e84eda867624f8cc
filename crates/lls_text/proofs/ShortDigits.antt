-- The number of a few digits, one digit after another.
use Rattle.std.proofs.Common.{◌≡◌, ℕ, refl, suc, ◌+◌, ◌-◌, ◌*◌, ◌^◌, ◌<◌, ◌≤◌, true, List, length, get_or, take, ap, ◌∙◌, arith}
use Rattle.std.specs.List.{list_all}
use Rattle.std.specs.Char.{is_ascii_digit, digit_value}
use Rattle.std.specs.Str.Parse.{digits_value}
use Rattle.std.proofs.Math.Nat.{pow-le-pow_right, pow-suc}
use Rattle.std.proofs.lemmas.List.Folds.{list_all_more}
use Rattle.std.proofs.lemmas.Str.{digit_value_digit}
use Rattle.std.proofs.lemmas.Int.Digits.{digits_value_more}
use Rattle.lls_text.proofs.CappedDigits.{digit_range}

-- what a loop over digits keeps
pub record IsShort (text : List ℕ) (i size : ℕ) : Type 0 where
  pub digits : list_all is_ascii_digit (take i text) ≡ true
  pub value : size ≡ digits_value 10 (take i text)
  pub small : size < 10 ^ i

-- behind fewer than 19 digits one more stays in 64 bits
pub short_fits : (text : List ℕ) (i size : ℕ) → i < length text → length text ≤ 19 → IsShort text i size → is_ascii_digit (get_or text i 0) ≡ true
    → size * 10 + (get_or text i 0 - 48) < 2 ^ 64
short_fits text i size lt few h is =
    let least : i ≤ 18 = omega (arith, lt, few) in
    let most : 10 ^ i ≤ 10 ^ 18 = pow-le-pow_right (omega arith) least in
    omega (arith, most, h.small, digit_range (get_or text i 0) is)

pub short_next : (text : List ℕ) (i size : ℕ) → i < length text → IsShort text i size → is_ascii_digit (get_or text i 0) ≡ true
    → IsShort text (i + 1) (size * 10 + (get_or text i 0 - 48))
short_next text i size lt h is =
    let b = get_or text i 0 in
    let digit : digit_value b + 48 ≡ b = digit_value_digit b (digit_range b is) in
    let same : b - 48 ≡ digit_value b = omega (arith, digit) in
    let next : i + 1 ≡ suc i = omega arith in
    let power : 10 ^ (i + 1) ≡ 10 ^ i * 10 = ap (λ k. 10 ^ k) next ∙ pow-suc 10 i in
    record {
      digits = list_all_more is_ascii_digit text i 0 lt ∙ rw (h.digits, is) refl;
      value = rw (h.value, same, digits_value_more 10 text i lt) refl;
      small = omega (arith, power, digit_range b is, h.small);
    }
