-- Each place has one Luby number.
use Rattle.std.proofs.Common.{◌≡◌, ℕ, suc, ◌+◌, ◌-◌, ◌*◌, ◌^◌, ◌%◌, ◌<◌, ◌≤◌, ap, subst, inl, inr, arith}
use Rattle.std.proofs.Math.Nat.{pow-le-pow_right, pow-suc, mod-eq_of_lt}
use Rattle.std.proofs.lemmas.Bool.{cases_lt}
use Rattle.lls_order.specs.Luby.{IsLuby, half, again}

double_le : (j k : ℕ) → j < k → 2 * 2 ^ j ≤ 2 ^ k
double_le j k less =
    let le : 2 ^ suc j ≤ 2 ^ k = pow-le-pow_right {n = 2} (omega arith) {i = suc j} {j = k} (omega (arith, less)) in
    omega (arith, le, pow-suc 2 j)

-- a number has one power of two that it reaches without reaching the next
same_power : (n j k : ℕ) → 2 ^ j ≤ n → n < 2 * 2 ^ j → 2 ^ k ≤ n → n < 2 * 2 ^ k → 2 ^ j ≡ 2 ^ k
same_power n j k j_low j_high k_low k_high = elim (cases_lt j k) [
  | inl less ↦ absurd (omega (arith, double_le j k less))
  | inr le ↦ elim (cases_lt k j) [ inl less ↦ absurd (omega (arith, double_le k j less)) | inr ge ↦ ap (λ e. 2 ^ e) (omega (arith, le, ge)) ]
]

-- no place is both kinds
apart : (n j k : ℕ) → n + 1 ≡ 2 * 2 ^ j → 2 ^ k ≤ n → n + 1 < 2 * 2 ^ k → ⊥
apart n j k is low high = elim (cases_lt j k) [
  | inl less ↦ omega (arith, double_le j k less, is, low)
  | inr le ↦ omega (arith, pow-le-pow_right {n = 2} (omega arith) {i = k} {j = j} le, is, high)
]

pub at_half : (n k m : ℕ) → n + 1 ≡ 2 * 2 ^ k → IsLuby n m → m ≡ 2 ^ k
at_half n k m is (half j e) = omega (arith, is, e)
at_half n k m is (again j low high rest) = absurd (apart n k j is low high)

pub between : (n k m : ℕ) → 2 ^ k ≤ n → n + 1 < 2 * 2 ^ k → IsLuby n m → IsLuby (n - 2 ^ k + 1) m
between n k m low high (half j e) = absurd (apart n j k e low high)
between n k m low high (again j j_low j_high rest) =
    let P : ℕ → Type 0 = λ p. IsLuby (n - p + 1) m in
    subst P (same_power n j k j_low (omega (arith, j_high)) low (omega (arith, high))) rest

-- a shift of 1 that doesn't pass its type
pub shifted : (n k : ℕ) → 2 ^ k ≤ n → n < 18446744073709551616 → 1 * 2 ^ k % 18446744073709551616 ≡ 2 ^ k
shifted n k low few =
    let one : 1 * 2 ^ k ≡ 2 ^ k = omega arith in
    rw one (mod-eq_of_lt (omega (arith, low, few)))
