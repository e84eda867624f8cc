-- Entries as they are kept in tables by variable.
use Rattle.std.proofs.Common.{◌≡◌, ◌≢◌, ℕ, ◌+◌, ◌-◌, ◌<◌, ◌≤◌, Bool, true, false, ◌&&◌, cond, eqb, List, [], ◌∷◌, ◌++◌, length, map, get_or, set, Some, None, refl, sym, ap, ◌∙◌, inl, inr, arith}
use Rattle.std.specs.Prelude.{ℤ, Option, is_none, nat_le, option_map}
use Rattle.std.proofs.lemmas.List.{map_push, get_or-set_other}
use Rattle.std.proofs.lemmas.Grind.{get_or-set_at}
use Rattle.std.proofs.lemmas.Bool.{and_parts}
use Rattle.std.proofs.lemmas.Bool.Decides.{eqb_tells, nat_tests}
use Rattle.lls_lit.specs.Literal.{variable_of, is_positive}
use Rattle.lls_lit.specs.Formula.{is_literal_of, is_within}
use Rattle.lls_store.specs.Trail.{Entry, literals_of, entry_of, decisions, levels_after, has_variables_once}
use Rattle.lls_store.specs.Changes.{with_reason_at}
use Rattle.lls_store.specs.Tables.{entry_in, entries_in, value_of}
use Rattle.lls_store.proofs.Entries.{entry_of-none, entry_of-cons_same, entry_of-cons_other, decisions_cons}

pub variable_bounds : (vars v : ℕ) → (nat_le 1 v && nat_le v vars) ≡ true → (1 ≤ v) × (v ≤ vars)
variable_bounds vars v h = let parts = and_parts (nat_le 1 v) (nat_le v vars) h in (grind (arith, nat_tests), grind (arith, nat_tests))

pub variable_within : (vars v : ℕ) → 1 ≤ v → v ≤ vars → (nat_le 1 v && nat_le v vars) ≡ true
variable_within vars v low high = grind (arith, nat_tests)

pub literals_of-entries_in : (levels : List ℕ) (reasons : List (Option ℕ)) (lits : List ℤ) → literals_of (entries_in levels reasons lits) ≡ lits
literals_of-entries_in levels reasons [] = refl
literals_of-entries_in levels reasons (l ∷ ls) = ap (λ ms. l ∷ ms) (literals_of-entries_in levels reasons ls)

-- entries at other places stay where the tables are written
entries_kept : (levels : List ℕ) (reasons : List (Option ℕ)) (i level : ℕ) (reason : Option ℕ) (vars : ℕ) (lits : List ℤ) → is_within vars lits ≡ true → entry_of (entries_in levels reasons lits) (i + 1) ≡ None
    → entries_in (set levels i level) (set reasons i reason) lits ≡ entries_in levels reasons lits
entries_kept levels reasons i level reason vars [] within none = refl
entries_kept levels reasons i level reason vars (l ∷ ls) within none =
    let parts = and_parts (is_literal_of vars l) (is_within vars ls) within in
    let low : 1 ≤ variable_of l = (variable_bounds vars (variable_of l) parts.0).0 in
    let nones = entry_of-none (entry_in levels reasons l) (entries_in levels reasons ls) (i + 1) none in
    let other : variable_of l - 1 ≢ i = λ same. nones.0 (omega arith) in
    ap (λ (n : ℕ). record { lit = l; level = n; reason = get_or (set reasons i reason) (variable_of l - 1) None } ∷ entries_in (set levels i level) (set reasons i reason) ls) (get_or-set_other levels i (variable_of l - 1) level 0 other)
    ∙ ap (λ (r : Option ℕ). record { lit = l; level = get_or levels (variable_of l - 1) 0; reason = r } ∷ entries_in (set levels i level) (set reasons i reason) ls) (get_or-set_other reasons i (variable_of l - 1) reason None other)
    ∙ ap (λ es. entry_in levels reasons l ∷ es) (entries_kept levels reasons i level reason vars ls parts.1 nones.1)

entry_written : (levels : List ℕ) (reasons : List (Option ℕ)) (i level : ℕ) (reason : Option ℕ) (l : ℤ) → i < length levels → i < length reasons → variable_of l - 1 ≡ i
    → entry_in (set levels i level) (set reasons i reason) l ≡ record { lit = l; level = level; reason = reason }
entry_written levels reasons i level reason l lt lt' at =
    ap (λ (n : ℕ). record { lit = l; level = n; reason = get_or (set reasons i reason) (variable_of l - 1) None }) (get_or-set_at levels i (variable_of l - 1) level 0 at lt)
    ∙ ap (λ (r : Option ℕ). record { lit = l; level = level; reason = r }) (get_or-set_at reasons i (variable_of l - 1) reason None at lt')

-- a literal more, whose level and reason are written
pub entries_in-push : (levels : List ℕ) (reasons : List (Option ℕ)) (i level : ℕ) (reason : Option ℕ) (vars : ℕ) (lits : List ℤ) (l : ℤ) → is_within vars lits ≡ true → entry_of (entries_in levels reasons lits) (i + 1) ≡ None
    → i < length levels → i < length reasons → variable_of l - 1 ≡ i
    → entries_in (set levels i level) (set reasons i reason) (lits ++ l ∷ []) ≡ entries_in levels reasons lits ++ record { lit = l; level = level; reason = reason } ∷ []
entries_in-push levels reasons i level reason vars lits l within none lt lt' at =
    map_push (entry_in (set levels i level) (set reasons i reason)) lits l
    ∙ ap (λ es. es ++ entry_in (set levels i level) (set reasons i reason) l ∷ []) (entries_kept levels reasons i level reason vars lits within none)
    ∙ ap (λ e. entries_in levels reasons lits ++ e ∷ []) (entry_written levels reasons i level reason l lt lt' at)

-- what is found has the level and the reason of the tables
pub entry_of-entries_in : (levels : List ℕ) (reasons : List (Option ℕ)) (lits : List ℤ) (v : ℕ) (e : Entry) → entry_of (entries_in levels reasons lits) v ≡ Some e
    → (e.level ≡ get_or levels (v - 1) 0) × (e.reason ≡ get_or reasons (v - 1) None)
entry_of-entries_in levels reasons [] v e found = absurd cc
entry_of-entries_in levels reasons (l ∷ ls) v e found = elim (eqb_tells (variable_of l) v) [
  | inl t ↦
      let is : Some (entry_in levels reasons l) ≡ Some e = sym (entry_of-cons_same (entry_in levels reasons l) (entries_in levels reasons ls) v t.1) ∙ found in
      let same = same_entry (entry_in levels reasons l) e is in (
        ap (λ (x : Entry). x.level) same ∙ ap (λ n. get_or levels (n - 1) 0) t.1,
        ap (λ (x : Entry). x.reason) same ∙ ap (λ n. get_or reasons (n - 1) None) t.1,
      )
  | inr t ↦ entry_of-entries_in levels reasons ls v e (sym (entry_of-cons_other (entry_in levels reasons l) (entries_in levels reasons ls) v t.1) ∙ found)
] where
  same_entry : (x y : Entry) → Some x ≡ Some y → y ≡ x
  same_entry x y h = cc

-- another reason at one place
reason_written : (levels : List ℕ) (reasons : List (Option ℕ)) (i reason : ℕ) (l : ℤ) → i < length reasons → 1 ≤ variable_of l
    → entry_in levels (set reasons i (Some reason)) l ≡ with_reason_at (i + 1) reason (entry_in levels reasons l)
reason_written levels reasons i reason l lt low = elim (eqb_tells (variable_of l) (i + 1)) [
  | inl t ↦
      ap (λ (r : Option ℕ). record { lit = l; level = get_or levels (variable_of l - 1) 0; reason = r }) (get_or-set_at reasons i (variable_of l - 1) (Some reason) None (omega (arith, t.1)) lt)
      ∙ ap (λ b. cond b (record { lit = l; level = get_or levels (variable_of l - 1) 0; reason = Some reason }) (entry_in levels reasons l)) (sym t.0)
  | inr t ↦
      ap (λ (r : Option ℕ). record { lit = l; level = get_or levels (variable_of l - 1) 0; reason = r }) (get_or-set_other reasons i (variable_of l - 1) (Some reason) None (λ same. t.1 (omega (arith, same))))
      ∙ ap (λ b. cond b (record { lit = l; level = get_or levels (variable_of l - 1) 0; reason = Some reason }) (entry_in levels reasons l)) (sym t.0)
]

pub entries_in-reason : (levels : List ℕ) (reasons : List (Option ℕ)) (i reason vars : ℕ) (lits : List ℤ) → is_within vars lits ≡ true → i < length reasons
    → entries_in levels (set reasons i (Some reason)) lits ≡ map (with_reason_at (i + 1) reason) (entries_in levels reasons lits)
entries_in-reason levels reasons i reason vars [] within lt = refl
entries_in-reason levels reasons i reason vars (l ∷ ls) within lt =
    let parts = and_parts (is_literal_of vars l) (is_within vars ls) within in
    ap (λ e. e ∷ entries_in levels (set reasons i (Some reason)) ls) (reason_written levels reasons i reason l lt (variable_bounds vars (variable_of l) parts.0).0)
    ∙ ap (λ es. with_reason_at (i + 1) reason (entry_in levels reasons l) ∷ es) (entries_in-reason levels reasons i reason vars ls parts.1 lt)

-- levels, variables and values don't depend on reasons
pub levels_in : (levels : List ℕ) (reasons other : List (Option ℕ)) (lits : List ℤ) → map (λ e. e.level) (entries_in levels reasons lits) ≡ map (λ e. e.level) (entries_in levels other lits)
levels_in levels reasons other [] = refl
levels_in levels reasons other (l ∷ ls) = ap (λ ns. get_or levels (variable_of l - 1) 0 ∷ ns) (levels_in levels reasons other ls)

value_step : (b : Bool) (x y : Entry) (o p : Option Entry) → is_positive x.lit ≡ is_positive y.lit → option_map (λ e. is_positive e.lit) o ≡ option_map (λ e. is_positive e.lit) p
    → option_map (λ e. is_positive e.lit) (cond b (Some x) o) ≡ option_map (λ e. is_positive e.lit) (cond b (Some y) p)
value_step true x y o p first rest = ap Some first
value_step false x y o p first rest = rest

pub value_in : (levels : List ℕ) (reasons other : List (Option ℕ)) (lits : List ℤ) (v : ℕ) → value_of (entries_in levels reasons lits) v ≡ value_of (entries_in levels other lits) v
value_in levels reasons other [] v = refl
value_in levels reasons other (l ∷ ls) v =
    value_step (eqb (variable_of l) v) (entry_in levels reasons l) (entry_in levels other l) (entry_of (entries_in levels reasons ls) v) (entry_of (entries_in levels other ls) v) refl (value_in levels reasons other ls v)

is_none-value : (o : Option Entry) → is_none (option_map (λ e. is_positive e.lit) o) ≡ is_none o
is_none-value None = refl
is_none-value (Some e) = refl

pub once_in : (levels : List ℕ) (reasons other : List (Option ℕ)) (lits : List ℤ) → has_variables_once (entries_in levels reasons lits) ≡ has_variables_once (entries_in levels other lits)
once_in levels reasons other [] = refl
once_in levels reasons other (l ∷ ls) =
    let first : is_none (entry_of (entries_in levels reasons ls) (variable_of l)) ≡ is_none (entry_of (entries_in levels other ls) (variable_of l)) =
    sym (is_none-value (entry_of (entries_in levels reasons ls) (variable_of l))) ∙ ap is_none (value_in levels reasons other ls (variable_of l)) ∙ is_none-value (entry_of (entries_in levels other ls) (variable_of l)) in
    ap (λ b. b && has_variables_once (entries_in levels reasons ls)) first ∙ ap (λ b. is_none (entry_of (entries_in levels other ls) (variable_of l)) && b) (once_in levels reasons other ls)

-- a reason for a reason leaves the decisions
decision_kept : (reasons : List (Option ℕ)) (i reason j : ℕ) → i < length reasons → is_none (get_or reasons i None) ≡ false → is_none (get_or (set reasons i (Some reason)) j None) ≡ is_none (get_or reasons j None)
decision_kept reasons i reason j lt forced = elim (eqb_tells j i) [
  | inl t ↦ ap is_none (get_or-set_at reasons i j (Some reason) None t.1 lt) ∙ sym (ap (λ k. is_none (get_or reasons k None)) t.1 ∙ forced)
  | inr t ↦ ap is_none (get_or-set_other reasons i j (Some reason) None t.1)
]

pub levels_after-reason : (n : ℕ) (levels : List ℕ) (reasons : List (Option ℕ)) (i reason : ℕ) (lits : List ℤ) → i < length reasons → is_none (get_or reasons i None) ≡ false
    → levels_after n (entries_in levels (set reasons i (Some reason)) lits) ≡ levels_after n (entries_in levels reasons lits)
levels_after-reason n levels reasons i reason [] lt forced = refl
levels_after-reason n levels reasons i reason (l ∷ ls) lt forced =
    let kept = decision_kept reasons i reason (variable_of l - 1) lt forced in
    ap (λ b. cond b (n + 1) n ∷ levels_after (cond b (n + 1) n) (entries_in levels (set reasons i (Some reason)) ls)) kept
    ∙ ap (λ ns. cond (is_none (get_or reasons (variable_of l - 1) None)) (n + 1) n ∷ ns) (levels_after-reason (cond (is_none (get_or reasons (variable_of l - 1) None)) (n + 1) n) levels reasons i reason ls lt forced)

pub decisions-reason : (levels : List ℕ) (reasons : List (Option ℕ)) (i reason : ℕ) (lits : List ℤ) → i < length reasons → is_none (get_or reasons i None) ≡ false
    → decisions (entries_in levels (set reasons i (Some reason)) lits) ≡ decisions (entries_in levels reasons lits)
decisions-reason levels reasons i reason [] lt forced = refl
decisions-reason levels reasons i reason (l ∷ ls) lt forced =
    decisions_cons (entry_in levels (set reasons i (Some reason)) l) (entries_in levels (set reasons i (Some reason)) ls)
    ∙ ap (λ b. cond b 1 0 + decisions (entries_in levels (set reasons i (Some reason)) ls)) (decision_kept reasons i reason (variable_of l - 1) lt forced)
    ∙ ap (λ n. cond (is_none (get_or reasons (variable_of l - 1) None)) 1 0 + n) (decisions-reason levels reasons i reason ls lt forced)
    ∙ sym (decisions_cons (entry_in levels reasons l) (entries_in levels reasons ls))
