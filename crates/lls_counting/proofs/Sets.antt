-- Clauses of one number have the same literals.
use Rattle.std.proofs.Common.{◌≡◌, ◌≤◌, suc, ℕ, Bool, true, false, not, ◌||◌, cond, List, [], ◌∷◌, refl, sym, ap, ◌∙◌, arith}
use Rattle.std.specs.Prelude.{ℤ, pos, negsuc, ◌==◌, nat_le}
use Rattle.std.specs.List.{list_all, list_any}
use Rattle.std.specs.Ordering.{int_eq}
use Rattle.std.proofs.lemmas.Bool.{and_parts, not-true}
use Rattle.std.proofs.lemmas.Bool.Decides.{Decides-int_eq, nat_tests}
use Rattle.lls_lit.specs.Literal.{negation, variable_of}
use Rattle.lls_lit.specs.Formula.{Clause, is_literal_of, is_within}
use Rattle.lls_prooflog.specs.UnitWalk.{is_among}
use Rattle.lls_prooflog.specs.Spent.{has_variables_once}
use Rattle.lls_prooflog.proofs.LiteralLists.{same_literal, passes_among}
use Rattle.lls_counting.specs.Counting.{HaveSameLiterals, digit_of, number_of, ClausesAreNumbered, NumbersTellClauses}
use Rattle.lls_counting.proofs.Digits.{digits_equal, number_below, number_positive}

either : (a : Bool) {b : Bool} → b ≡ true → (a || b) ≡ true
either true e = refl
either false e = e

any_among : (test : ℤ → Bool) (lits : List ℤ) (l : ℤ) → is_among lits l ≡ true → test l ≡ true → list_any test lits ≡ true
any_among test [] l among is = absurd cc
any_among test (m ∷ ms) l among is =
    elim (int_eq l m) as (λ b. int_eq l m ≡ b → (b || is_among ms l) ≡ true → (test m || list_any test ms) ≡ true) [
      | true ↦ λ same _. let passes : test m ≡ true = rw (sym (same_literal l m same)) is in rw passes refl
      | false ↦ λ _ h. either (test m) (any_among test ms l h is)
    ] refl among

-- in a clause without a variable twice one variable has one literal
once_same : (clause : Clause) (a b : ℤ) → has_variables_once clause ≡ true → is_among clause a ≡ true → is_among clause b ≡ true → variable_of a ≡ variable_of b → a ≡ b
once_same [] a b once first second same = absurd cc
once_same (l ∷ ls) a b once first second same =
    let parts = and_parts (not (list_any (λ m. variable_of m == variable_of l) ls)) (has_variables_once ls) once in
    let alone : list_any (λ m. variable_of m == variable_of l) ls ≡ false = not-true (list_any (λ m. variable_of m == variable_of l) ls) parts.0 in
    elim (int_eq a l) as (λ t. int_eq a l ≡ t → (t || is_among ls a) ≡ true → a ≡ b) [
      | true ↦ λ a_head _. elim (int_eq b l) as (λ t. int_eq b l ≡ t → (t || is_among ls b) ≡ true → a ≡ b) [
        | true ↦ λ b_head _. same_literal a l a_head ∙ sym (same_literal b l b_head)
        | false ↦ λ _ b_rest. absurd (clash ls l b alone b_rest (sym same ∙ ap variable_of (same_literal a l a_head)))
      ] refl second
      | false ↦ λ _ a_rest. elim (int_eq b l) as (λ t. int_eq b l ≡ t → (t || is_among ls b) ≡ true → a ≡ b) [
        | true ↦ λ b_head _. absurd (clash ls l a alone a_rest (same ∙ ap variable_of (same_literal b l b_head)))
        | false ↦ λ _ b_rest. once_same ls a b parts.1 a_rest b_rest same
      ] refl second
    ] refl first
  where
    clash : (ls : List ℤ) (l m : ℤ) → list_any (λ k. variable_of k == variable_of l) ls ≡ false → is_among ls m ≡ true → variable_of m ≡ variable_of l → ⊥
    clash ls l m none among e =
        let is : (variable_of m == variable_of l) ≡ true = rw e grind arith in
        let some = any_among (λ k. variable_of k == variable_of l) ls m among is in
        absurd cc

-- what a digit says
digit_of_variable : (clause : Clause) (v : ℕ) → is_among clause (pos v) ≡ true → digit_of clause v ≡ 1
digit_of_variable clause v is = rw is refl

digit_of_negation : (clause : Clause) (v : ℕ) → is_among clause (pos v) ≡ false → is_among clause (negation (pos v)) ≡ true → digit_of clause v ≡ 2
digit_of_negation clause v isnt is = rw (isnt, is) refl

abbrev digit : Bool → Bool → ℕ
digit a b = cond a 1 (cond b 2 0)

one_is : (a b : Bool) → digit a b ≡ 1 → a ≡ true
one_is true b e = refl
one_is false true e = absurd (omega (arith, e))
one_is false false e = absurd (omega (arith, e))

two_is : (a b : Bool) → digit a b ≡ 2 → b ≡ true
two_is true b e = absurd (omega (arith, e))
two_is false true e = refl
two_is false false e = absurd (omega (arith, e))

variable_of_digit : (clause : Clause) (v : ℕ) → digit_of clause v ≡ 1 → is_among clause (pos v) ≡ true
variable_of_digit clause v e = one_is (is_among clause (pos v)) (is_among clause (negation (pos v))) e

negation_of_digit : (clause : Clause) (v : ℕ) → digit_of clause v ≡ 2 → is_among clause (negation (pos v)) ≡ true
negation_of_digit clause v e = two_is (is_among clause (pos v)) (is_among clause (negation (pos v))) e

within_bounds : (vars : ℕ) (clause : Clause) (l : ℤ) → is_within vars clause ≡ true → is_among clause l ≡ true → (1 ≤ variable_of l) × (variable_of l ≤ vars)
within_bounds vars clause l within among =
    let is : is_literal_of vars l ≡ true = passes_among (is_literal_of vars) clause l within among in
    let parts = and_parts (nat_le 1 (variable_of l)) (nat_le (variable_of l) vars) is in
    (grind (arith, nat_tests, parts.0), grind (arith, nat_tests, parts.1))

-- the literals of one are among those of the other
among_other : (vars : ℕ) (one other : Clause) → is_within vars one ≡ true → has_variables_once one ≡ true → number_of vars one ≡ number_of vars other → (l : ℤ) → is_among one l ≡ true → is_among other l ≡ true
among_other vars one other within once e (pos n) among =
    let bounds = within_bounds vars one (pos n) within among in
    variable_of_digit other n (sym (digits_equal vars one other e n bounds.0 bounds.1) ∙ digit_of_variable one n among)
among_other vars one other within once e (negsuc n) among =
    let bounds = within_bounds vars one (negsuc n) within among in
    let low : 1 ≤ suc n = omega arith in
    let high : suc n ≤ vars = let h = bounds.1 in omega (arith, h) in
    let isnt : is_among one (pos (suc n)) ≡ false =
    elim (is_among one (pos (suc n))) as (λ b. is_among one (pos (suc n)) ≡ b → b ≡ false) [
      | true ↦ λ both. absurd (different n (once_same one (pos (suc n)) (negsuc n) once both among (omega arith)))
      | false ↦ λ _. refl
    ] refl in
    negation_of_digit other (suc n) (sym (digits_equal vars one other e (suc n) low high) ∙ digit_of_negation one (suc n) isnt among)
  where
    different : (n : ℕ) → pos (suc n) ≡ negsuc n → ⊥
    different n h = absurd cc

pub numbers_tell : NumbersTellClauses
numbers_tell vars one other one_within other_within one_once other_once e l =
    same_truth (is_among one l) (is_among other l) (among_other vars one other one_within one_once e l) (among_other vars other one other_within other_once (sym e) l)
  where
    same_truth : (a b : Bool) → (a ≡ true → b ≡ true) → (b ≡ true → a ≡ true) → a ≡ b
    same_truth true b f g = sym (f refl)
    same_truth false true f g = g refl
    same_truth false false f g = refl

pub numbered : ClausesAreNumbered
numbered vars [] some within = absurd (omega (arith, some))
numbered vars (l ∷ ls) some within = (first l here, number_below vars (l ∷ ls)) where
  here : is_among (l ∷ ls) l ≡ true
  here = rw ((Decides-int_eq l l).1 refl) refl

  first : (m : ℤ) → is_among (l ∷ ls) m ≡ true → 1 ≤ number_of vars (l ∷ ls)
  first (pos n) among =
      let bounds = within_bounds vars (l ∷ ls) (pos n) within among in
      number_positive vars (l ∷ ls) n bounds.0 bounds.1 (rw (digit_of_variable (l ∷ ls) n among) (omega arith))
  first (negsuc n) among =
      let bounds = within_bounds vars (l ∷ ls) (negsuc n) within among in
      let high : suc n ≤ vars = let h = bounds.1 in omega (arith, h) in
      number_positive vars (l ∷ ls) (suc n) (omega arith) high
      (elim (is_among (l ∷ ls) (pos (suc n))) as (λ b. 1 ≤ cond b 1 (cond (is_among (l ∷ ls) (negsuc n)) 2 0)) [ true ↦ omega arith | false ↦ rw among (omega arith) ])

pub part_of_same : (part clause : Clause) → HaveSameLiterals part clause → list_all (is_among clause) part ≡ true
part_of_same part clause same = from_each part (λ l among. sym (same l) ∙ among) where
  from_each : (ls : Clause) → ((l : ℤ) → is_among ls l ≡ true → is_among clause l ≡ true) → list_all (is_among clause) ls ≡ true
  from_each [] each = refl
  from_each (l ∷ ls) each =
      let head : is_among clause l ≡ true = each l (rw ((Decides-int_eq l l).1 refl) refl) in
      rw head (from_each ls (λ m among. each m (behind m among)))
    where
      behind : (m : ℤ) → is_among ls m ≡ true → is_among (l ∷ ls) m ≡ true
      behind m among = either (int_eq m l) among
