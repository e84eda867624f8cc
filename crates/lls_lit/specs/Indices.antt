-- Literals and their places in a table of two entries a variable.
use Rattle.std.proofs.Common.{◌≡◌, ℕ, ◌+◌, ◌-◌, ◌*◌, ◌/◌, ◌%◌, true, false, cond, eqb, refl, arith}
use Rattle.std.specs.Prelude.{ℤ, pos, negsuc}
use Rattle.std.proofs.lemmas.Bool.Decides.{nat_tests}
use Rattle.lls_lit.specs.Literal.{IsLiteral, index_of, literal_at}

pub index_of-literal_at : (i : ℕ) → index_of (literal_at i) ≡ i
index_of-literal_at i =
    elim (eqb (i % 2) 0) as (λ b. eqb (i % 2) 0 ≡ b → index_of (cond b (pos (i / 2 + 1)) (negsuc (i / 2))) ≡ i) [
      | true ↦ λ e. grind (arith, nat_tests)
      | false ↦ λ e. grind (arith, nat_tests)
    ] refl

pub literal_at-index_of : (l : ℤ) → IsLiteral l → literal_at (index_of l) ≡ l
literal_at-index_of (pos n) h =
    let even : 2 * (n - 1) % 2 ≡ 0 = omega arith in
    let half : 2 * (n - 1) / 2 + 1 ≡ n = omega (arith, h.0) in
    rw (even, half) refl
literal_at-index_of (negsuc n) h =
    let odd : (2 * n + 1) % 2 ≡ 1 = omega arith in
    let half : (2 * n + 1) / 2 ≡ n = omega arith in
    rw (odd, half) refl
