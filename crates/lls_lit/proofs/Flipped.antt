-- The last bit of a literal's place is its sign, and a literal negated twice is itself.
use Rattle.std.proofs.Common.{◌≡◌, ℕ, zero, suc, ◌+◌, ◌*◌, ◌/◌, ◌%◌, ◌<◌, true, false, cond, eqb, refl, sym, ap, ◌∙◌, arith, add-one}
use Rattle.std.specs.Prelude.{ℤ, pos, negsuc}
use Rattle.std.proofs.lemmas.Bool.Decides.{nat_tests}
use lib.Bits.{bit_xor, xor_block, xor_zero_r}
use Rattle.lls_lit.specs.Literal.{literal_at, negation}

-- a number with its last bit turned
flipped : (a r : ℕ) → r < 2 → bit_xor (a * 2 + r) 1 ≡ a * 2 + bit_xor r 1
flipped a r h = xor_block 1 a 0 r 1 h (omega arith) ∙ ap (λ n. n * 2 + bit_xor r 1) (xor_zero_r a)

flipped-even : (i : ℕ) → i % 2 ≡ 0 → bit_xor i 1 ≡ 2 * (i / 2) + 1
flipped-even i e =
    let is : i ≡ i / 2 * 2 + 0 = omega arith in
    ap (λ n. bit_xor n 1) is ∙ flipped (i / 2) 0 (omega arith) ∙ omega arith

flipped-odd : (i : ℕ) → i % 2 ≡ 1 → bit_xor i 1 ≡ 2 * (i / 2)
flipped-odd i e =
    let is : i ≡ i / 2 * 2 + 1 = omega arith in
    ap (λ n. bit_xor n 1) is ∙ flipped (i / 2) 1 (omega arith) ∙ omega arith

literal_at-even : (n : ℕ) → literal_at (2 * n) ≡ pos (n + 1)
literal_at-even n =
    let even : 2 * n % 2 ≡ 0 = omega arith in
    let half : 2 * n / 2 ≡ n = omega arith in
    rw (even, half) refl

literal_at-odd : (n : ℕ) → literal_at (2 * n + 1) ≡ negsuc n
literal_at-odd n =
    let odd : (2 * n + 1) % 2 ≡ 1 = omega arith in
    let half : (2 * n + 1) / 2 ≡ n = omega arith in
    rw (odd, half) refl

negation-next : (n : ℕ) → negation (pos (n + 1)) ≡ negsuc n
negation-next n = rw add-one refl

-- the literal behind the other sign
pub literal_at-flipped : (i : ℕ) → literal_at (bit_xor i 1) ≡ negation (literal_at i)
literal_at-flipped i =
    elim (eqb (i % 2) 0) as (λ b. eqb (i % 2) 0 ≡ b → literal_at (bit_xor i 1) ≡ negation (cond b (pos (i / 2 + 1)) (negsuc (i / 2)))) [
      | true ↦ λ e. let even : i % 2 ≡ 0 = grind (arith, nat_tests) in ap literal_at (flipped-even i even) ∙ literal_at-odd (i / 2) ∙ sym (negation-next (i / 2))
      | false ↦ λ e. let odd : i % 2 ≡ 1 = grind (arith, nat_tests) in ap literal_at (flipped-odd i odd) ∙ literal_at-even (i / 2)
    ] refl

pub negation_twice : (l : ℤ) → negation (negation l) ≡ l
negation_twice (pos zero) = refl
negation_twice (pos (suc n)) = ap pos (omega arith)
negation_twice (negsuc n) =
    let one_more : n + 1 ≡ suc n = omega arith in
    ap (λ k. negation (pos k)) one_more
