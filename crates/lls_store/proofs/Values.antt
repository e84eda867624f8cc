-- Values of literals.
use Rattle.std.proofs.Common.{◌≡◌, ◌≢◌, ℕ, zero, suc, ◌≤◌, Bool, true, false, not, ◌||◌, List, [], ◌∷◌, Some, None, refl, sym, ap, ◌∙◌, inl, inr, arith}
use mathlib.Core.Bool.{beq}
use Rattle.std.specs.Prelude.{ℤ, pos, negsuc, ◌⊎◌, Option, is_none, option_map, ◌↔◌}
use Rattle.std.specs.Ordering.{int_eq}
use Rattle.std.proofs.lemmas.Bool.{and_parts}
use Rattle.std.proofs.lemmas.Bool.Decides.{eqb_tells, Decides-int_eq}
use Rattle.lls_lit.specs.Literal.{variable_of, negation, is_positive}
use Rattle.lls_lit.specs.Formula.{is_literal_of, is_within}
use Rattle.lls_store.specs.Trail.{Entry, entry_of, literals_of, IsConsistent, has, IsUnset, has_variables_once}
use Rattle.lls_store.proofs.Tabled.{variable_bounds}
use Rattle.lls_store.proofs.Entries.{entry_of-cons_same, entry_of-cons_other, variable-entry_of}

pub variable_of-negation : (l : ℤ) → variable_of (negation l) ≡ variable_of l
variable_of-negation (pos zero) = refl
variable_of-negation (pos (suc n)) = omega arith
variable_of-negation (negsuc n) = refl

-- literals of one variable are equal, or one is the negation of the other
pub same_variable : (a l : ℤ) → variable_of a ≡ variable_of l → (a ≡ l) ⊎ (a ≡ negation l)
same_variable (pos m) (pos n) same = inl (ap pos same)
same_variable (pos m) (negsuc n) same = inr (ap pos same)
same_variable (negsuc m) (pos zero) same = absurd (omega arith)
same_variable (negsuc m) (pos (suc n)) same = inr (ap negsuc (omega arith))
same_variable (negsuc m) (negsuc n) same = inl (ap negsuc (omega arith))

-- the entry that was found has the literal
abbrev pub has_found : Option Entry → ℤ → Bool
has_found None l = false
has_found (Some e) l = int_eq e.lit l

found_step : (b : Bool) (o : Option Entry) (l : ℤ) → is_none o ≡ true → (b || has_found o l) ≡ b
found_step true None l none = refl
found_step false None l none = refl
found_step b (Some e) l none = absurd cc

int_eq-other : (a l : ℤ) → variable_of a ≢ variable_of l → int_eq a l ≡ false
int_eq-other a l other =
    elim (int_eq a l) as (λ b. int_eq a l ≡ b → b ≡ false) [ true ↦ λ same. absurd (other (ap variable_of ((Decides-int_eq a l).0 same))) | false ↦ λ _. refl ] refl

-- a literal is true where its variable's entry has it
pub has-entry_of : (es : List Entry) (l : ℤ) → has_variables_once es ≡ true → has es l ≡ has_found (entry_of es (variable_of l)) l
has-entry_of [] l once = refl
has-entry_of (x ∷ es) l once =
    let parts = and_parts (is_none (entry_of es (variable_of x.lit))) (has_variables_once es) once in
    let rest = has-entry_of es l parts.1 in
    elim (eqb_tells (variable_of x.lit) (variable_of l)) [
      | inl t ↦
          ap (λ b. int_eq x.lit l || b) rest
          ∙ found_step (int_eq x.lit l) (entry_of es (variable_of l)) l (ap (λ v. is_none (entry_of es v)) (sym t.1) ∙ parts.0)
          ∙ sym (ap (λ o. has_found o l) (entry_of-cons_same x es (variable_of l) t.1))
      | inr t ↦ ap (λ b. b || has es l) (int_eq-other x.lit l t.1) ∙ rest ∙ sym (ap (λ o. has_found o l) (entry_of-cons_other x es (variable_of l) t.1))
    ]

-- where a literal has no value, its variable has no entry
pub entry_of-unset : (es : List Entry) (l : ℤ) → has_variables_once es ≡ true → IsUnset es l → entry_of es (variable_of l) ≡ None
entry_of-unset es l once unset =
    elim (entry_of es (variable_of l)) as (λ o. entry_of es (variable_of l) ≡ o → o ≡ None) [ None ↦ λ _. refl | Some e ↦ λ found. absurd (some_entry e found) ] refl where
      some_entry : (e : Entry) → entry_of es (variable_of l) ≡ Some e → ⊥
      some_entry e found = elim (same_variable e.lit l (variable-entry_of es (variable_of l) e found)) [
        | inl same ↦ unset.not_true (has-entry_of es l once ∙ ap (λ o. has_found o l) found ∙ (Decides-int_eq e.lit l).1 same)
        | inr same ↦
            unset.not_false (has-entry_of es (negation l) once
            ∙ ap (λ v. has_found (entry_of es v) (negation l)) (variable_of-negation l)
            ∙ ap (λ o. has_found o (negation l)) found
            ∙ (Decides-int_eq e.lit (negation l)).1 same)
      ]

-- signs tell literals of one variable apart
abbrev pub same_sign : Bool → Bool → Bool
same_sign true b = b
same_sign false b = not b

sign_tells : (a l : ℤ) → 1 ≤ variable_of l → variable_of a ≡ variable_of l → int_eq a l ≡ same_sign (is_positive a) (is_positive l)
sign_tells (pos m) (pos n) low same = (Decides-int_eq (pos m) (pos n)).1 (ap pos same)
sign_tells (pos m) (negsuc n) low same = refl
sign_tells (negsuc m) (pos n) low same = refl
sign_tells (negsuc m) (negsuc n) low same = (Decides-int_eq (negsuc m) (negsuc n)).1 (ap negsuc (omega arith))

is_positive-negation : (l : ℤ) → 1 ≤ variable_of l → is_positive (negation l) ≡ not (is_positive l)
is_positive-negation (pos zero) low = absurd (omega arith)
is_positive-negation (pos (suc n)) low = refl
is_positive-negation (negsuc n) low = refl

sign_flip : (a b : Bool) → same_sign a (not b) ≡ not (same_sign a b)
sign_flip true b = refl
sign_flip false true = refl
sign_flip false false = refl

has_signed : (es : List Entry) (l m : ℤ) (positive : Bool) → has_variables_once es ≡ true → 1 ≤ variable_of m → variable_of m ≡ variable_of l → option_map (λ e. is_positive e.lit) (entry_of es (variable_of l)) ≡ Some positive
    → has es m ≡ same_sign positive (is_positive m)
has_signed es l m positive once low same value =
    has-entry_of es m once ∙ ap (λ v. has_found (entry_of es v) m) same
    ∙ elim (entry_of es (variable_of l)) as (λ o. entry_of es (variable_of l) ≡ o → option_map (λ e. is_positive e.lit) o ≡ Some positive → has_found o m ≡ same_sign positive (is_positive m)) [
      | None ↦ λ _ none. absurd cc
      | Some e ↦
          λ found is.
          let signs : is_positive e.lit ≡ positive = same_value (is_positive e.lit) positive is in
          sign_tells e.lit m low (variable-entry_of es (variable_of l) e found ∙ sym same) ∙ ap (λ b. same_sign b (is_positive m)) signs
    ] refl value where
      same_value : (a b : Bool) → Some a ≡ Some b → a ≡ b
      same_value a b h = cc

-- where the variable's value is known
pub has-value : (es : List Entry) (l : ℤ) (positive : Bool) → has_variables_once es ≡ true → 1 ≤ variable_of l → option_map (λ e. is_positive e.lit) (entry_of es (variable_of l)) ≡ Some positive → has es l ≡ same_sign positive (is_positive l)
has-value es l positive once low value = has_signed es l l positive once low refl value

pub has-negated_value : (es : List Entry) (l : ℤ) (positive : Bool) → has_variables_once es ≡ true → 1 ≤ variable_of l → option_map (λ e. is_positive e.lit) (entry_of es (variable_of l)) ≡ Some positive → has es (negation l) ≡ not (same_sign positive (is_positive l))
has-negated_value es l positive once low value =
    has_signed es l (negation l) positive once (omega (arith, variable_of-negation l)) (variable_of-negation l) value ∙ ap (same_sign positive) (is_positive-negation l low) ∙ sign_flip positive (is_positive l)

-- where there is none
has_without : (es : List Entry) (l m : ℤ) → has_variables_once es ≡ true → variable_of m ≡ variable_of l → option_map (λ e. is_positive e.lit) (entry_of es (variable_of l)) ≡ None → has es m ≡ false
has_without es l m once same value =
    has-entry_of es m once ∙ ap (λ v. has_found (entry_of es v) m) same
    ∙ elim (entry_of es (variable_of l)) as (λ o. option_map (λ e. is_positive e.lit) o ≡ None → has_found o m ≡ false) [ None ↦ λ _. refl | Some e ↦ λ is. absurd cc ] value

pub has-no_value : (es : List Entry) (l : ℤ) → has_variables_once es ≡ true → option_map (λ e. is_positive e.lit) (entry_of es (variable_of l)) ≡ None → (has es l ≡ false) × (has es (negation l) ≡ false)
has-no_value es l once value = (has_without es l l once refl value, has_without es l (negation l) once (variable_of-negation l) value)

pub same_sign-beq : (a b : Bool) → same_sign a b ≡ beq a b
same_sign-beq true true = refl
same_sign-beq true false = refl
same_sign-beq false true = refl
same_sign-beq false false = refl

-- the three answers, where the truth of a literal and of its negation is known
pub true_answer : (b h : Bool) → h ≡ b → (Some b ≡ Some true) ↔ (h ≡ true)
true_answer b h same = (λ is. same ∙ (let t : b ≡ true = cc in t), λ is. ap Some (sym same ∙ is))

pub false_answer : (b h : Bool) → h ≡ not b → (Some b ≡ Some false) ↔ (h ≡ true)
false_answer true h same = (λ is. absurd cc, λ is. absurd (let both : true ≡ false = sym is ∙ same in cc))
false_answer false h same = (λ _. same, λ _. refl)

pub no_answer : (b h : Bool) → h ≡ false → (None ≡ Some b) ↔ (h ≡ true)
no_answer b h same = (λ is. absurd cc, λ is. absurd (let both : true ≡ false = sym is ∙ same in cc))

pub set_answer : (es : List Entry) (l : ℤ) (b : Bool) → has es l ≡ b → has es (negation l) ≡ not b → (Some b ≡ None) ↔ IsUnset es l
set_answer es l true is_true is_false = (λ is. absurd cc, λ unset. absurd (unset.not_true is_true))
set_answer es l false is_true is_false = (λ is. absurd cc, λ unset. absurd (unset.not_false is_false))

false_is_true : (b : Bool) → b ≡ false → b ≡ true → ⊥
false_is_true b is_false is_true = cc

abbrev nothing : Option Bool
nothing = None

pub unset_answer : (es : List Entry) (l : ℤ) → has es l ≡ false → has es (negation l) ≡ false → (nothing ≡ None) ↔ IsUnset es l
unset_answer es l not_true not_false = (
  λ _. record { not_true = false_is_true (has es l) not_true; not_false = false_is_true (has es (negation l)) not_false },
  λ _. refl,
)

self_negated : (l : ℤ) → l ≡ negation l → variable_of l ≡ 0
self_negated (pos zero) same = refl
self_negated (pos (suc n)) same = absurd cc
self_negated (negsuc n) same = absurd cc

literal_had : (vars : ℕ) (es : List Entry) (l : ℤ) → is_within vars (literals_of es) ≡ true → has es l ≡ true → is_literal_of vars l ≡ true
literal_had vars [] l within is = absurd cc
literal_had vars (e ∷ es) l within is =
    let parts = and_parts (is_literal_of vars e.lit) (is_within vars (literals_of es)) within in
    by_first (int_eq e.lit l) refl is (literal_had vars es l parts.1) where
      by_first : (b : Bool) → int_eq e.lit l ≡ b → (b || has es l) ≡ true → (has es l ≡ true → is_literal_of vars l ≡ true) → is_literal_of vars l ≡ true
      by_first true same either later = ap (is_literal_of vars) (sym ((Decides-int_eq e.lit l).0 same)) ∙ (and_parts (is_literal_of vars e.lit) (is_within vars (literals_of es)) within).0
      by_first false same either later = later either

both_found : (o : Option Entry) (l m : ℤ) → has_found o l ≡ true → has_found o m ≡ true → l ≡ m
both_found None l m first second = absurd cc
both_found (Some e) l m first second = sym ((Decides-int_eq e.lit l).0 first) ∙ (Decides-int_eq e.lit m).0 second

-- where no variable stands twice, no literal is both true and false
pub consistent : (vars : ℕ) (es : List Entry) → is_within vars (literals_of es) ≡ true → has_variables_once es ≡ true → IsConsistent es
consistent vars es within once =
    λ l is_true is_false.
    let found = sym (has-entry_of es l once) ∙ is_true in
    let found' = sym (has-entry_of es (negation l) once ∙ ap (λ v. has_found (entry_of es v) (negation l)) (variable_of-negation l)) ∙ is_false in
    let none : variable_of l ≡ 0 = self_negated l (both_found (entry_of es (variable_of l)) l (negation l) found found') in
    let some = variable_bounds vars (variable_of l) (literal_had vars es l within is_true) in
    absurd (omega (arith, none, some.0))
