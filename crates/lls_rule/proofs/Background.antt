-- The background by the two answers that decide it: those of nine dead and nine live cells.
use Rattle.std.proofs.Common.{◌≡◌, ℕ, suc, zero, ◌%◌, nat_eq, nat_lt, List, Bool, true, false, cond, refl, ap, ◌∙◌, arith}
use Rattle.std.specs.Prelude.{not}
use Rattle.std.proofs.lemmas.Bool.Decides.{nat_tests}
use Rattle.std.specs.Prelude.{replicate}
use Rattle.lls_rule.specs.Rule.{background, answer, number_of}

number_of-nine : (b : Bool) → number_of (replicate 9 b) ≡ cond b 511 0
number_of-nine b = elim b as (λ v. number_of (replicate 9 v) ≡ cond v 511 0) [ true ↦ refl | false ↦ refl ]

pub background-suc : (table : List Bool) (t : ℕ) → background table (suc t) ≡ answer table (cond (background table t) 511 0)
background-suc table t = ap (answer table) (number_of-nine (background table t))

pub background_dead : (table : List Bool) → answer table 0 ≡ false → (t : ℕ) → background table t ≡ false
background_dead table dead zero = refl
background_dead table dead (suc t) =
    background-suc table t ∙ ap (λ b. answer table (cond b 511 0)) (background_dead table dead t) ∙ dead

positive : (t : ℕ) → true ≡ nat_lt 0 (suc t)
positive t = grind (arith, nat_tests)

pub background_stays : (table : List Bool) → answer table 0 ≡ true → answer table 511 ≡ true → (t : ℕ) → background table t ≡ nat_lt 0 t
background_stays table born lives zero = refl
background_stays table born lives (suc t) =
    background-suc table t ∙ ((elim (background table t) as (λ b. answer table (cond b 511 0) ≡ true) [ true ↦ lives | false ↦ born ]) ∙ positive t)

blinks : (table : List Bool) → answer table 0 ≡ true → answer table 511 ≡ false → (b : Bool) → answer table (cond b 511 0) ≡ not b
blinks table born dies b = elim b as (λ v. answer table (cond v 511 0) ≡ not v) [ true ↦ dies | false ↦ born ]

odd-suc : (t : ℕ) → not (nat_eq (t % 2) 1) ≡ nat_eq (suc t % 2) 1
odd-suc t = grind (arith, nat_tests)

pub background_blinks : (table : List Bool) → answer table 0 ≡ true → answer table 511 ≡ false → (t : ℕ) → background table t ≡ nat_eq (t % 2) 1
background_blinks table born dies zero = refl
background_blinks table born dies (suc t) =
    background-suc table t ∙ blinks table born dies (background table t) ∙ ap not (background_blinks table born dies t) ∙ odd-suc t
