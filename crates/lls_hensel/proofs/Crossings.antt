-- Where two rules cross, and at which background they differ.
use Rattle.std.proofs.Common.{◌≡◌, ℕ, zero, suc, ◌+◌, ◌-◌, ◌<◌, ◌≤◌, Bool, true, false, cond, not, ◌&&◌, List, find, nat_eq, Option, Some, None, refl, sym, ap, ap₂, ◌∙◌, arith}
use Rattle.std.specs.List.{range_with_len}
use Rattle.std.proofs.Math.Bool.{beq}
use Rattle.std.proofs.lemmas.Bool.{eqb-true, eqb-false}
use Rattle.std.proofs.lemmas.Option.{none-some}
use Rattle.lls_rule.specs.Rule.{answer}
use Rattle.lls_hensel.specs.Ends.{AgreeWhereUniform, IsAtMost, crosses, first_crossing, first_loose_background}
use Rattle.lls_hensel.proofs.Uneven.{beq_same, from_beq}

-- the least crossing from a number on
unfoldable pub crossing_from : List Bool → List Bool → ℕ → Option ℕ
crossing_from low high nine = find (crosses low high) (range_with_len nine (512 - nine))

pub crossing_from-start : (low high : List Bool) → first_crossing low high ≡ crossing_from low high 0
unfolding first_crossing crossing_from
crossing_from-start low high = refl

pub crossing_from-step : (low high : List Bool) (n : ℕ) → n < 512 → crossing_from low high n ≡ cond (crosses low high n) (Some n) (crossing_from low high (n + 1))
unfolding crossing_from
crossing_from-step low high n h =
    let k : 512 - n ≡ suc (512 - (n + 1)) = omega arith in
    ap (λ m. find (crosses low high) (range_with_len n m)) k

pub crossing_from-end : (low high : List Bool) (n : ℕ) → 512 ≤ n → crossing_from low high n ≡ None
unfolding crossing_from
crossing_from-end low high n h = let k : 512 - n ≡ 0 = omega arith in ap (λ m. find (crosses low high) (range_with_len n m)) k

crosses-one : (a b : Bool) → (a && not b) ≡ false → a ≡ true → b ≡ true
crosses-one a true none one = refl
crosses-one true false none one = sym none
crosses-one false false none one = one

crosses-none : (a b : Bool) → (a ≡ true → b ≡ true) → (a && not b) ≡ false
crosses-none true b ordered = ap not (ordered refl)
crosses-none false b ordered = refl

-- nothing in a range is found where each fails the test
range_none : (test : ℕ → Bool) (from count : ℕ) → ((n : ℕ) → from ≤ n → n < from + count → test n ≡ false) → find test (range_with_len from count) ≡ None
range_none test from zero fails = refl
range_none test from (suc count) fails =
    ap (λ b. cond b (Some from) (find test (range_with_len (from + 1) count))) (fails from (omega arith) (omega arith))
    ∙ range_none test (from + 1) count (λ n above below. fails n (omega (arith, above)) (omega (arith, below)))

-- where nothing in a range is found, each fails the test
none_range : (test : ℕ → Bool) (from count : ℕ) → find test (range_with_len from count) ≡ None → (n : ℕ) → from ≤ n → n < from + count → test n ≡ false
none_range test from zero none n above below = absurd (omega (arith, above, below))
none_range test from (suc count) none n above below =
    elim (test from) as (λ b. test from ≡ b → cond b (Some from) (find test (range_with_len (from + 1) count)) ≡ None → test n ≡ false) [
      | true ↦ λ here found. absurd (none-some from (sym found))
      | false ↦ λ here later.
          elim (nat_eq n from) as (λ b. nat_eq n from ≡ b → test n ≡ false) [
            | true ↦ λ same. ap test (eqb-true n from same) ∙ here
            | false ↦ λ other. none_range test (from + 1) count later n (omega (arith, above, eqb-false n from other)) (omega (arith, below))
          ] refl
    ] refl none

pub IsAtMost-first_crossing : (low high : List Bool) → (first_crossing low high ≡ None → IsAtMost low high) × (IsAtMost low high → first_crossing low high ≡ None)
unfolding first_crossing
IsAtMost-first_crossing low high = (
  λ none n below one. crosses-one (answer low n) (answer high n) (none_range (crosses low high) 0 512 none n (omega arith) below) one,
  λ ordered. range_none (crosses low high) 0 512 (λ n above below. crosses-none (answer low n) (answer high n) (ordered n below)),
)

crossing_here : (low high : List Bool) (n : ℕ) (a b : Bool) → n < 512 → a ≡ answer low n → b ≡ answer high n → first_crossing low high ≡ crossing_from low high n
    → first_crossing low high ≡ cond (a && not b) (Some n) (crossing_from low high (n + 1))
crossing_here low high n a b below low_is high_is so_far =
    so_far ∙ (crossing_from-step low high n below
    ∙ ap₂ (λ x y. cond (x && not y) (Some n) (crossing_from low high (n + 1))) (sym low_is) (sym high_is))

-- one neighbourhood at which two rules don't cross
pub crossing_later : (low high : List Bool) (n : ℕ) (a b : Bool) → n < 512 → a ≡ answer low n → b ≡ answer high n → first_crossing low high ≡ crossing_from low high n
    → (a && not b) ≡ false → first_crossing low high ≡ crossing_from low high (n + 1)
crossing_later low high n a b below low_is high_is so_far none =
    crossing_here low high n a b below low_is high_is so_far ∙ ap (λ test. cond test (Some n) (crossing_from low high (n + 1))) none

-- the first at which they do
pub crossing_now : (low high : List Bool) (n : ℕ) (a b : Bool) → n < 512 → a ≡ answer low n → b ≡ answer high n → first_crossing low high ≡ crossing_from low high n
    → (a && not b) ≡ true → Some n ≡ first_crossing low high
crossing_now low high n a b below low_is high_is so_far one =
    sym (crossing_here low high n a b below low_is high_is so_far ∙ ap (λ test. cond test (Some n) (crossing_from low high (n + 1))) one)

-- the background at which two rules differ, by two tests
abbrev pub loose_by : Bool → Bool → Option ℕ
loose_by dead live = cond dead (Some 0) (cond live (Some 511) None)

abbrev differ : Bool → Bool → Bool
differ a b = not (beq a b)

-- by what the rules give
pub loose_is : (low high : List Bool) (a b c d : Bool) → a ≡ answer low 0 → b ≡ answer high 0 → c ≡ answer low 511 → d ≡ answer high 511
    → first_loose_background low high ≡ loose_by (differ a b) (differ c d)
unfolding first_loose_background
loose_is low high a b c d a_is b_is c_is d_is = rw (a_is, b_is, c_is, d_is) refl

pub loose_dead : (low high : List Bool) (a b : Bool) → a ≡ answer low 0 → b ≡ answer high 0 → differ a b ≡ true → Some 0 ≡ first_loose_background low high
loose_dead low high a b a_is b_is other =
    sym (loose_is low high a b (answer low 511) (answer high 511) a_is b_is refl refl ∙ ap (λ test. loose_by test (differ (answer low 511) (answer high 511))) other)

agree_none : (a b c d : Bool) → (loose_by (differ a b) (differ c d) ≡ None → (a ≡ b) × (c ≡ d)) × ((a ≡ b) × (c ≡ d) → loose_by (differ a b) (differ c d) ≡ None)
agree_none a b c d = (
  λ none. (
    elim (differ a b) as (λ v. differ a b ≡ v → loose_by v (differ c d) ≡ None → a ≡ b) [
      | true ↦ λ other found. absurd (none-some 0 (sym found))
      | false ↦ λ same _. from_beq a b same
    ] refl none,
    elim (differ a b) as (λ v. loose_by v (differ c d) ≡ None → c ≡ d) [
      | true ↦ λ found. absurd (none-some 0 (sym found))
      | false ↦ λ found.
          elim (differ c d) as (λ v. differ c d ≡ v → loose_by false v ≡ None → c ≡ d) [
            | true ↦ λ other found. absurd (none-some 511 (sym found))
            | false ↦ λ same _. from_beq c d same
          ] refl found
    ] none,
  ),
  λ same. ap₂ (λ x y. loose_by (not x) (not y)) (beq_same a b same.0) (beq_same c d same.1),
)

pub AgreeWhereUniform-first_loose_background : (low high : List Bool)
    → (first_loose_background low high ≡ None → AgreeWhereUniform low high) × (AgreeWhereUniform low high → first_loose_background low high ≡ None)
unfolding first_loose_background
AgreeWhereUniform-first_loose_background low high = agree_none (answer low 0) (answer high 0) (answer low 511) (answer high 511)
