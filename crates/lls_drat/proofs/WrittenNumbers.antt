-- Numbers that were written in bytes are read again.
use Rattle.std.proofs.Common.{◌≡◌, ℕ, zero, suc, ◌+◌, ◌*◌, ◌/◌, ◌%◌, ◌<◌, ◌≤◌, Bool, true, false, ◌||◌, ◌&&◌, cond, eqb, leb, ltb, List, [], ◌∷◌, ◌++◌, length, Some, None, refl, ap, ◌∙◌, arith}
use Rattle.std.specs.Prelude.{ℤ, pos, negsuc, Ok}
use Rattle.std.specs.List.{list_any, flat_map}
use Rattle.std.proofs.lemmas.Bool.{and_parts}
use Rattle.std.proofs.lemmas.Bool.Decides.{nat_tests}
use Rattle.std.proofs.lemmas.List.Folds.{list_any-append}
use Rattle.lls_base.specs.Results.{and_then}
use Rattle.lls_lit.specs.Formula.{is_literal_of, is_within}
use Rattle.lls_lit.specs.declared.var.TheConstants.Var.{MOST}
use Rattle.lls_drat.specs.Number.{numbers_from, is_whole, number_value, literal_of_code, is_code, literal_in_bytes}
use Rattle.lls_drat.specs.Stretch.{in_range, literals}
use Rattle.lls_drat.specs.Written.{number_bytes, code_of, literal_bytes}

-- so many bytes are enough
abbrev pub fits : ℕ → ℕ → Bool
fits zero n = false
fits (suc most) n = ltb n 128 || fits most (n / 128)

-- the number stands before the others
numbers_from-number : (most n place : ℕ) (rest : List ℕ) → fits most n ≡ true → numbers_from place (number_bytes most n ++ rest) ≡ record { place = place; bytes = number_bytes most n } ∷ numbers_from (place + length (number_bytes most n)) rest
numbers_from-number zero n place rest e = absurd cc
numbers_from-number (suc most) n place rest e =
    elim (ltb n 128) as (λ v. ltb n 128 ≡ v → (v || fits most (n / 128)) ≡ true → numbers_from place (cond v (n ∷ []) ((n % 128 + 128) ∷ number_bytes most (n / 128)) ++ rest) ≡ record { place = place; bytes = cond v (n ∷ []) ((n % 128 + 128) ∷ number_bytes most (n / 128)) } ∷ numbers_from (place + length (cond v (n ∷ []) ((n % 128 + 128) ∷ number_bytes most (n / 128)))) rest) [
      | true ↦ λ is _. rw is refl
      | false ↦ λ _ h.
          let more = number_bytes most (n / 128) in
          let top : ltb (n % 128 + 128) 128 ≡ false = grind (arith, nat_tests) in
          let sum : (place + 1) + length more ≡ place + length ((n % 128 + 128) ∷ more) = omega arith in
          rw (top, numbers_from-number most (n / 128) (place + 1) rest h, sum) refl
    ] refl e

value_of_bytes : (most n : ℕ) → fits most n ≡ true → number_value (number_bytes most n) ≡ n
value_of_bytes zero n e = absurd cc
value_of_bytes (suc most) n e =
    elim (ltb n 128) as (λ v. ltb n 128 ≡ v → (v || fits most (n / 128)) ≡ true → number_value (cond v (n ∷ []) ((n % 128 + 128) ∷ number_bytes most (n / 128))) ≡ n) [
      | true ↦ λ is _. grind (arith, nat_tests)
      | false ↦ λ _ h. let rest = value_of_bytes most (n / 128) h in omega (arith, rest)
    ] refl e

whole_bytes : (most n : ℕ) → fits most n ≡ true → is_whole (number_bytes most n) ≡ true
whole_bytes zero n e = absurd cc
whole_bytes (suc most) n e =
    elim (ltb n 128) as (λ v. ltb n 128 ≡ v → (v || fits most (n / 128)) ≡ true → is_whole (cond v (n ∷ []) ((n % 128 + 128) ∷ number_bytes most (n / 128))) ≡ true) [
      | true ↦ λ is _. rw is refl
      | false ↦ λ _ h. let top : ltb (n % 128 + 128) 128 ≡ false = grind (arith, nat_tests) in rw (top, whole_bytes most (n / 128) h) refl
    ] refl e

-- none of the bytes is 0
no_zero : (most n : ℕ) → 0 < n → fits most n ≡ true → list_any (λ b. eqb b 0) (number_bytes most n) ≡ false
no_zero zero n some e = absurd cc
no_zero (suc most) n some e =
    elim (ltb n 128) as (λ v. ltb n 128 ≡ v → (v || fits most (n / 128)) ≡ true → list_any (λ b. eqb b 0) (cond v (n ∷ []) ((n % 128 + 128) ∷ number_bytes most (n / 128))) ≡ false) [
      | true ↦ λ is _. let other : eqb n 0 ≡ false = grind (arith, nat_tests) in rw other refl
      | false ↦ λ is h.
          let other : eqb (n % 128 + 128) 0 ≡ false = grind (arith, nat_tests) in
          let more : 0 < n / 128 = grind (arith, nat_tests) in
          rw (other, no_zero most (n / 128) more h) refl
    ] refl e

test_true : (n m : ℕ) → n < m → ltb n m ≡ true
test_true n m lt = grind (arith, nat_tests)

or_true : (a : Bool) → (a || true) ≡ true
or_true true = refl
or_true false = refl

pub four_fit : (n : ℕ) → n ≤ 33554433 → fits 4 n ≡ true
four_fit n le =
    let last : ltb (n / 128 / 128 / 128) 128 ≡ true = test_true (n / 128 / 128 / 128) 128 (omega arith) in
    rw (last, or_true (ltb (n / 128 / 128) 128), or_true (ltb (n / 128) 128), or_true (ltb n 128)) refl

-- the number of a literal
code_fits : (l : ℤ) → is_literal_of MOST l ≡ true → (0 < code_of l) × (code_of l ≤ 33554433)
code_fits (pos n) e = let parts = and_parts (leb 1 n) (leb n MOST) e in (grind (arith, nat_tests), grind (arith, nat_tests))
code_fits (negsuc n) e = let parts = and_parts (leb 1 (n + 1)) (leb (n + 1) MOST) e in (omega arith, grind (arith, nat_tests))

literal_of_code_of : (l : ℤ) → is_literal_of MOST l ≡ true → cond (is_code (code_of l)) (Some (literal_of_code (code_of l))) None ≡ Some l
literal_of_code_of (pos n) e =
    let even : 2 * n % 2 ≡ 0 = omega arith in
    let half : 2 * n / 2 ≡ n = omega arith in
    rw (half, e, even) refl
literal_of_code_of (negsuc n) e =
    let odd : (2 * (n + 1) + 1) % 2 ≡ 1 = omega arith in
    let half : (2 * (n + 1) + 1) / 2 ≡ suc n = omega arith in
    let one : suc n ≡ n + 1 = omega arith in
    let within : (leb 1 (suc n) && leb (suc n) MOST) ≡ true = rw one e in
    rw (half, within, odd) refl

literal_again : (l : ℤ) → is_literal_of MOST l ≡ true → literal_in_bytes (literal_bytes l) ≡ Some l
literal_again l e =
    let enough = four_fit (code_of l) (code_fits l e).1 in
    let whole = whole_bytes 4 (code_of l) enough in
    let value = value_of_bytes 4 (code_of l) enough in
    ap (λ b. cond (b && is_code (number_value (literal_bytes l))) (Some (literal_of_code (number_value (literal_bytes l)))) None) whole
    ∙ ap (λ (n : ℕ). cond (is_code n) (Some (literal_of_code n)) None) value
    ∙ literal_of_code_of l e

-- literals that were written
pub literals_again : (place : ℕ) (lits : List ℤ) → is_within MOST lits ≡ true → literals (numbers_from place (flat_map literal_bytes lits)) ≡ Ok lits
literals_again place [] all = refl
literals_again place (l ∷ ls) all =
    let parts = and_parts (is_literal_of MOST l) (is_within MOST ls) all in
    let front = numbers_from-number 4 (code_of l) place (flat_map literal_bytes ls) (four_fit (code_of l) (code_fits l parts.0).1) in
    ap literals front
    ∙ ap (λ o. and_then (in_range place o) (λ m. and_then (literals (numbers_from (place + length (literal_bytes l)) (flat_map literal_bytes ls))) (λ ms. Ok (m ∷ ms)))) (literal_again l parts.0)
    ∙ ap (λ r. and_then r (λ ms. Ok (l ∷ ms))) (literals_again (place + length (literal_bytes l)) ls parts.1)

pub literals_no_zero : (lits : List ℤ) → is_within MOST lits ≡ true → list_any (λ b. eqb b 0) (flat_map literal_bytes lits) ≡ false
literals_no_zero [] all = refl
literals_no_zero (l ∷ ls) all =
    let parts = and_parts (is_literal_of MOST l) (is_within MOST ls) all in
    let bounds = code_fits l parts.0 in
    list_any-append (λ b. eqb b 0) (literal_bytes l) (flat_map literal_bytes ls)
    ∙ rw (no_zero 4 (code_of l) bounds.0 (four_fit (code_of l) bounds.1), literals_no_zero ls parts.1) refl
