-- What the tables tell of a variable.
use Rattle.std.proofs.Common.{◌≡◌, ℕ, ◌+◌, ◌<◌, ◌≤◌, Bool, true, false, not, List, length, get_or, set, Some, None, refl, sym, ap, subst, ◌∙◌, arith}
use mathlib.Core.Bool.{beq}
use Rattle.std.specs.Prelude.{ℤ, Option, is_none, is_some, option_map, option_and_then, IsSome, ◌↔◌}
use Rattle.lls_lit.specs.Literal.{variable_of, negation, is_positive}
use Rattle.lls_lit.specs.Formula.{is_within}
use Rattle.lls_store.specs.Trail.{Entry, TrailState, entry_of, has, Has, HasNegated, level_of, reason_of, IsUnset, IsTrail}
use Rattle.lls_store.specs.Changes.{with_reason}
use Rattle.lls_store.specs.TruthTable.{answer_for}
use Rattle.lls_store.specs.Tables.{entries_in, trail_in, value_of, AreTables}
use Rattle.lls_store.proofs.Tabled.{entry_of-entries_in, entries_in-reason, literals_of-entries_in}
use Rattle.lls_store.proofs.Values.{entry_of-unset, same_sign, same_sign-beq, has-value, has-negated_value, has-no_value, true_answer, false_answer, no_answer, set_answer, unset_answer}

-- a literal without a value has no entry
pub entry_of-free : (t s : TrailState) (l : ℤ) → t ≡ s → IsTrail t → IsUnset s.entries l → entry_of t.entries (variable_of l) ≡ None
entry_of-free t s l same h unset = entry_of-unset t.entries l h.once (let P : TrailState → Type 0 = λ u. IsUnset u.entries l in subst P (sym same) unset)

pub valued : (o : Option Entry) (b : Bool) → option_map (λ e. is_positive e.lit) o ≡ Some b → (e : Entry) × (o ≡ Some e)
valued None b is = absurd cc
valued (Some e) b is = (e, refl)

pub present : (o : Option Entry) → IsSome o → (e : Entry) × (o ≡ Some e)
present None some = absurd cc
present (Some e) some = (e, refl)

-- where a variable has an entry, its level and its reason are those of the tables
pub level_of-some : (levels : List ℕ) (reasons : List (Option ℕ)) (lits : List ℤ) (i v : ℕ) → i + 1 ≡ v → IsSome (entry_of (entries_in levels reasons lits) v) → level_of (entries_in levels reasons lits) v ≡ Some (get_or levels i 0)
level_of-some levels reasons lits i v at some =
    let found = present (entry_of (entries_in levels reasons lits) v) some in
    ap (λ o. option_map (λ e. e.level) o) found.1 ∙ ap Some ((entry_of-entries_in levels reasons lits v found.0 found.1).0 ∙ ap (λ n. get_or levels n 0) (omega (arith, at)))

pub reason_of-some : (levels : List ℕ) (reasons : List (Option ℕ)) (lits : List ℤ) (i v : ℕ) → i + 1 ≡ v → IsSome (entry_of (entries_in levels reasons lits) v) → reason_of (entries_in levels reasons lits) v ≡ get_or reasons i None
reason_of-some levels reasons lits i v at some =
    let found = present (entry_of (entries_in levels reasons lits) v) some in
    ap (λ o. option_and_then (λ e. e.reason) o) found.1 ∙ (entry_of-entries_in levels reasons lits v found.0 found.1).1 ∙ ap (λ n. get_or reasons n None) (omega (arith, at))

-- where it has none, it has neither
unvalued : (o : Option Entry) → option_map (λ e. is_positive e.lit) o ≡ None → o ≡ None
unvalued None is = refl
unvalued (Some e) is = absurd cc

pub entry_of-table : (t : TrailState) (room i v : ℕ) (values : List (Option Bool)) (levels : List ℕ) (reasons : List (Option ℕ)) → AreTables t room values levels reasons → i + 1 ≡ v → i < length values → get_or values i None ≡ None → entry_of t.entries v ≡ None
entry_of-table t room i v values levels reasons h at inside value =
    unvalued (entry_of t.entries v) (ap (λ n. value_of t.entries n) (sym at) ∙ sym (h.are_values i inside) ∙ value)

-- a reason that is told stands in the table
pub reason_tabled : (levels : List ℕ) (reasons : List (Option ℕ)) (lits : List ℤ) (i v : ℕ) → i + 1 ≡ v → IsSome (reason_of (entries_in levels reasons lits) v) → is_none (get_or reasons i None) ≡ false
reason_tabled levels reasons lits i v at told =
    by_entry (entry_of (entries_in levels reasons lits) v) refl told where
      has_one : (o : Option ℕ) → IsSome o → is_none o ≡ false
      has_one None some = absurd cc
      has_one (Some n) some = refl

      by_entry : (o : Option Entry) → entry_of (entries_in levels reasons lits) v ≡ o → IsSome (option_and_then (λ e. e.reason) o) → is_none (get_or reasons i None) ≡ false
      by_entry None found some = absurd cc
      by_entry (Some e) found some =
          ap is_none (ap (λ n. get_or reasons n None) (omega (arith, at)) ∙ sym ((entry_of-entries_in levels reasons lits v e found).1)) ∙ has_one e.reason some

pub trail_in-reason : (vars current room i v reason : ℕ) (values : List (Option Bool)) (levels : List ℕ) (reasons : List (Option ℕ)) (lits : List ℤ)
    → AreTables (trail_in vars current levels reasons lits) room values levels reasons → i + 1 ≡ v → i < length reasons
    → trail_in vars current levels (set reasons i (Some reason)) lits ≡ with_reason (trail_in vars current levels reasons lits) v reason
trail_in-reason vars current room i v reason values levels reasons lits h at inside =
    let within : is_within vars lits ≡ true = ap (is_within vars) (sym (literals_of-entries_in levels reasons lits)) ∙ h.is_trail.within in
    ap (λ (es : List Entry). record { vars = vars; current = current; entries = es }) (entries_in-reason levels reasons i reason vars lits within inside)
    ∙ ap (λ n. with_reason (trail_in vars current levels reasons lits) n reason) at

-- what an answer tells of a literal
pub record TellsValue (es : List Entry) (l : ℤ) (answer : Option Bool) : Type 0 where
  pub is_true : (answer ≡ Some true) ↔ Has es l
  pub is_false : (answer ≡ Some false) ↔ HasNegated es l
  pub unset : (answer ≡ None) ↔ IsUnset es l

pub value_told : (t : TrailState) (room i : ℕ) (values : List (Option Bool)) (levels : List ℕ) (reasons : List (Option ℕ)) (l : ℤ) (positive sign : Bool)
    → AreTables t room values levels reasons → i + 1 ≡ variable_of l → i < length values → get_or values i None ≡ Some positive → sign ≡ is_positive l
    → TellsValue t.entries l (Some (beq positive sign))
value_told t room i values levels reasons l positive sign h at inside value signed =
    let es = t.entries in
    let of_variable : value_of es (variable_of l) ≡ Some positive = ap (λ n. value_of es n) (sym at) ∙ sym (h.are_values i inside) ∙ value in
    let low : 1 ≤ variable_of l = omega (arith, at) in
    let answer : same_sign positive (is_positive l) ≡ beq positive sign = same_sign-beq positive (is_positive l) ∙ ap (beq positive) (sym signed) in
    let truth = has-value es l positive h.is_trail.once low of_variable ∙ answer in
    let falsity = has-negated_value es l positive h.is_trail.once low of_variable ∙ ap not answer in
    record {
      is_true = true_answer (beq positive sign) (has es l) truth;
      is_false = false_answer (beq positive sign) (has es (negation l)) falsity;
      unset = set_answer es l (beq positive sign) truth falsity;
    }

pub no_value_told : (t : TrailState) (room i : ℕ) (values : List (Option Bool)) (levels : List ℕ) (reasons : List (Option ℕ)) (l : ℤ)
    → AreTables t room values levels reasons → i + 1 ≡ variable_of l → i < length values → get_or values i None ≡ None → TellsValue t.entries l None
no_value_told t room i values levels reasons l h at inside value =
    let es = t.entries in
    let of_variable : value_of es (variable_of l) ≡ None = ap (λ n. value_of es n) (sym at) ∙ sym (h.are_values i inside) ∙ value in
    let neither = has-no_value es l h.is_trail.once of_variable in
    record {
      is_true = no_answer true (has es l) neither.0;
      is_false = no_answer false (has es (negation l)) neither.1;
      unset = unset_answer es l neither.0 neither.1;
    }

answer_for-none : (sign : Bool) → answer_for sign None ≡ None
answer_for-none true = refl
answer_for-none false = refl

answer_for-some : (sign b : Bool) → answer_for sign (Some b) ≡ Some (beq b sign)
answer_for-some true true = refl
answer_for-some true false = refl
answer_for-some false true = refl
answer_for-some false false = refl

-- what is read of the table tells the value
pub value_tells : (t : TrailState) (room i : ℕ) (values : List (Option Bool)) (levels : List ℕ) (reasons : List (Option ℕ)) (l : ℤ) (answer : Option Bool)
    → AreTables t room values levels reasons → i + 1 ≡ variable_of l → i < length values → answer ≡ answer_for (is_positive l) (get_or values i None)
    → TellsValue t.entries l answer
value_tells t room i values levels reasons l answer h at inside is =
    let Tells : Option Bool → Type 0 = λ o. TellsValue t.entries l o in
    elim (get_or values i None) as (λ o. get_or values i None ≡ o → TellsValue t.entries l answer) [
      | None ↦ λ e. subst Tells (sym (is ∙ ap (answer_for (is_positive l)) e ∙ answer_for-none (is_positive l))) (no_value_told t room i values levels reasons l h at inside e)
      | Some b ↦ λ e. subst Tells (sym (is ∙ ap (answer_for (is_positive l)) e ∙ answer_for-some (is_positive l) b)) (value_told t room i values levels reasons l b (is_positive l) h at inside e refl)
    ] refl

-- the test says that there is no entry
pub absent_by_test : (es : List Entry) (v : ℕ) (test : Bool) → test ≡ is_some (entry_of es v) → test ≡ false → entry_of es v ≡ None
absent_by_test es v test is unset =
    elim (entry_of es v) as (λ o. entry_of es v ≡ o → entry_of es v ≡ None) [
      | None ↦ λ e. e
      | Some x ↦ λ e. absurd (unlike (sym unset ∙ is ∙ ap is_some e))
    ] refl where
      unlike : false ≡ true → ⊥
      unlike clash = cc
