-- A clause's digits and its number.
use Rattle.std.proofs.Common.{◌≡◌, ◌<◌, ◌≤◌, zero, suc, ◌+◌, ◌*◌, ◌/◌, ◌%◌, ◌^◌, ℕ, true, false, cond, sym, ap, ◌∙◌, inl, inr, arith}
use Rattle.std.specs.Prelude.{pos}
use Rattle.std.proofs.Math.Nat.{pow-suc}
use Rattle.std.proofs.lemmas.Nat.{div-mul-add, mod-mul-add, mul-add-lt}
use Rattle.std.proofs.lemmas.Bool.{cases_lt}
use Rattle.lls_lit.specs.Literal.{negation}
use Rattle.lls_lit.specs.Formula.{Clause}
use Rattle.lls_prooflog.specs.UnitWalk.{is_among}
use Rattle.lls_counting.specs.Counting.{digit_of, number_of}

pub digit_below : (clause : Clause) (v : ℕ) → digit_of clause v < 3
digit_below clause v =
    elim (is_among clause (pos v)) as (λ b. cond b 1 (cond (is_among clause (negation (pos v))) 2 0) < 3) [
      | true ↦ omega arith
      | false ↦ elim (is_among clause (negation (pos v))) as (λ b. cond b 2 0 < 3) [ true ↦ omega arith | false ↦ omega arith ]
    ]

pub number_below : (n : ℕ) (clause : Clause) → number_of n clause < 3 ^ n
number_below zero clause = omega arith
number_below (suc n) clause =
    rw (pow-suc 3 n) (mul-add-lt (digit_of clause (suc n)) (3 ^ n) (number_of n clause) 3 (digit_below clause (suc n)) (number_below n clause))

-- equal numbers have equal digits
pub digits_equal : (n : ℕ) (one other : Clause) → number_of n one ≡ number_of n other → (v : ℕ) → 1 ≤ v → v ≤ n → digit_of one v ≡ digit_of other v
digits_equal zero one other e v low high = absurd (omega (arith, low, high))
digits_equal (suc n) one other e v low high =
    let heads : digit_of one (suc n) ≡ digit_of other (suc n) =
    sym (div-mul-add (digit_of one (suc n)) (3 ^ n) (number_of n one) (number_below n one))
    ∙ ap (λ m. m / 3 ^ n) e ∙ div-mul-add (digit_of other (suc n)) (3 ^ n) (number_of n other) (number_below n other) in
    let rests : number_of n one ≡ number_of n other =
    sym (mod-mul-add (digit_of one (suc n)) (3 ^ n) (number_of n one) (number_below n one))
    ∙ ap (λ m. m % 3 ^ n) e ∙ mod-mul-add (digit_of other (suc n)) (3 ^ n) (number_of n other) (number_below n other) in
    elim (cases_lt n v) as (λ _. digit_of one v ≡ digit_of other v) [
      | inl more ↦ let last : v ≡ suc n = omega (arith, more, high) in rw last heads
      | inr less ↦ digits_equal n one other rests v low less
    ]

-- where a digit isn't 0, neither is the number
pub number_positive : (n : ℕ) (clause : Clause) (v : ℕ) → 1 ≤ v → v ≤ n → 1 ≤ digit_of clause v → 1 ≤ number_of n clause
number_positive zero clause v low high some = absurd (omega (arith, low, high))
number_positive (suc n) clause v low high some =
    elim (cases_lt n v) as (λ _. 1 ≤ digit_of clause (suc n) * 3 ^ n + number_of n clause) [
      | inl more ↦
          let last : v ≡ suc n = omega (arith, more, high) in
          let same : digit_of clause v ≡ digit_of clause (suc n) = ap (digit_of clause) last in
          let positive : 1 ≤ digit_of clause (suc n) = omega (arith, same, some) in
          weighed (digit_of clause (suc n)) (3 ^ n) (number_of n clause) positive (number_below n clause)
      | inr less ↦ let rest = number_positive n clause v low less some in omega (arith, rest)
    ]
  where
    weighed : (d w r : ℕ) → 1 ≤ d → r < w → 1 ≤ d * w + r
    weighed zero w r h lt = absurd (omega (arith, h))
    weighed (suc d) w r h lt = omega (arith, lt)
