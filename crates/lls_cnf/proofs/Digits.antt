-- The number that digits write, one digit after another.
use Rattle.std.proofs.Common.{◌≡◌, ℕ, ◌+◌, ◌-◌, ◌*◌, ◌^◌, ◌<◌, ◌≤◌, List, length, get_or, take, add-one, arith}
use Rattle.std.specs.Char.{digit_value}
use Rattle.std.specs.Str.Parse.{digits_value}
use Rattle.std.specs.Int.{IsInRange}
use Rattle.std.proofs.Math.Nat.{pow-le-pow_right, pow-succ'}
use Rattle.std.proofs.lemmas.Str.{digit_value_digit}
use Rattle.std.proofs.lemmas.Int.Digits.{digits_value_more}
use Rattle.lls_cnf.specs.declared.number.TheConstants.{MOST_DIGITS}

-- a number of at most so many digits
pub below_most : (v i : ℕ) → v < 10 ^ i → i ≤ MOST_DIGITS → v < 10 ^ MOST_DIGITS
below_most v i lt le = let more : 10 ^ i ≤ 10 ^ 18 = pow-le-pow_right {n = 10} (omega arith) le in omega arith

-- and one digit more
pub below_next : (v i : ℕ) → v < 10 ^ i → 10 * v + 9 < 10 ^ (i + 1)
below_next v i lt = let next : 10 ^ (i + 1) ≡ 10 * 10 ^ i = rw add-one (pow-succ' 10 i) in omega (arith, next)

pub digits_value-next : (bytes : List ℕ) (i v : ℕ) → i < length bytes → IsInRange 48 57 (get_or bytes i 0) → v ≡ digits_value 10 (take i bytes) → 10 * v + (get_or bytes i 0 - 48) ≡ digits_value 10 (take (i + 1) bytes)
digits_value-next bytes i v lt range e =
    let digit : digit_value (get_or bytes i 0) + 48 ≡ get_or bytes i 0 = digit_value_digit (get_or bytes i 0) range in
    let step : 10 * v + (get_or bytes i 0 - 48) ≡ v * 10 + digit_value (get_or bytes i 0) = omega (arith, digit) in
    rw (digits_value_more 10 bytes i lt, ← e) step
