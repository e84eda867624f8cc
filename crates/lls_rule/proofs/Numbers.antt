-- Numbers of lists of bits.
use Rattle.std.proofs.Common.{◌≡◌, ℕ, ◌+◌, ◌*◌, ◌^◌, ◌<◌, ◌≤◌, List, [], ◌∷◌, ◌++◌, Bool, true, false, cond, length, arith}
use Rattle.std.specs.List.{fold}
use Rattle.std.proofs.lemmas.List.Sums.{fold_push}
use Rattle.std.proofs.Math.Nat.{pow-suc}
use Rattle.lls_rule.specs.Rule.{number_of}

bit-lt : (bit : Bool) → cond bit 1 0 < 2
bit-lt bit = elim bit as (λ b. cond b 1 0 < 2) [ true ↦ omega arith | false ↦ omega arith ]

widened : (x a b p q : ℕ) → b < 2 → q ≡ 2 * p → x < (2 * a + b + 1) * p → x < (a + 1) * q
widened x a b p q h e g =
    let more : 2 * a + b + 1 ≤ 2 * a + 2 = omega arith in
    let wide : (2 * a + b + 1) * p ≤ (2 * a + 2) * p = grind (arith, more) in
    rw e (omega (arith, wide, g))

fold-lt : (a : ℕ) (bits : List Bool) → fold (λ n bit. 2 * n + cond bit 1 0) a bits < (a + 1) * 2 ^ length bits
fold-lt a [] = omega arith
fold-lt a (bit ∷ bits) =
    widened (fold (λ n b. 2 * n + cond b 1 0) a (bit ∷ bits)) a (cond bit 1 0) (2 ^ length bits) (2 ^ length (bit ∷ bits)) (bit-lt bit) (omega (arith, pow-suc 2 (length bits))) (fold-lt (2 * a + cond bit 1 0) bits)

-- a list of k bits has a number below 2 ^ k
pub number_of-lt : (bits : List Bool) → number_of bits < 2 ^ length bits
number_of-lt bits = omega (arith, fold-lt 0 bits)

-- one more bit at the end
pub number_of-append : (bits : List Bool) (bit : Bool) → number_of (bits ++ bit ∷ []) ≡ 2 * number_of bits + cond bit 1 0
number_of-append bits bit = fold_push (λ n b. 2 * n + cond b 1 0) 0 bits bit
