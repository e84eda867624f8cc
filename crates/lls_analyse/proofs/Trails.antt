-- Where literals stand in a trail, on which level, and which of them a clause forced.
use Rattle.std.proofs.Common.{◌≡◌, ℕ, zero, suc, ◌+◌, ◌<◌, ◌≤◌, Bool, true, false, ◌||◌, cond, List, [], ◌∷◌, ◌++◌, length, get_or, take, drop, Some, None, is_none, refl, sym, ap, ◌∙◌, inl, inr, arith, zero-add}
use Rattle.std.specs.Prelude.{ℤ, ◌⊎◌, slice_get, nat_lt, ◌==◌}
use Rattle.std.specs.List.{position_or_len}
use Rattle.std.specs.Ordering.{int_eq}
use Rattle.std.proofs.lemmas.Bool.{and_parts, eq-eqb}
use Rattle.std.proofs.lemmas.Bool.Decides.{Decides-int_eq, nat_tests}
use Rattle.std.proofs.lemmas.List.{take-append-drop, get_or-map, take_more}
use Rattle.std.proofs.lemmas.List.Folds.{find_at, list_any_at, list_any-append, list_any_kept}
use Rattle.std.proofs.lemmas.List.Sums.{count_by_more_yes, sum_by-take-le}
use Rattle.std.proofs.lemmas.Option.{get_or_from_slice_get, slice_get_within}
use Rattle.lls_lit.specs.Literal.{variable_of, negation}
use Rattle.lls_lit.proofs.Flipped.{negation_twice}
use Rattle.lls_store.specs.Trail.{Entry, TrailState, literals_of, has, HasNegated, IsConsistent, IsTrail, entry_of, place_of, is_decision, decisions, levels_after, has_variables_once}
use Rattle.lls_store.proofs.Values.{same_variable, variable_of-negation, consistent}
use Rattle.lls_store.proofs.Tabled.{variable_bounds}
use Rattle.lls_lit.specs.Formula.{is_literal_of, is_within}
use Rattle.lls_store.proofs.Entries.{entry_of-cons_same, entry_of-cons_other, variable-entry_of, decisions_cons}

-- two false literals of one variable are one
pub same_false : (es : List Entry) (l m : ℤ) → IsConsistent es → HasNegated es l → HasNegated es m → variable_of l ≡ variable_of m → l ≡ m
same_false es l m consistent false_l false_m same = elim (same_variable l m same) [
  | inl t ↦ t
  | inr t ↦ absurd (consistent (negation l) false_l (ap (λ x. has es (negation x)) (ap negation t ∙ negation_twice m) ∙ false_m))
]

unlike : {b : Bool} → b ≡ true → b ≡ false → ⊥
unlike is clash = cc

pub has_some : (es : List Entry) (l : ℤ) → has es l ≡ true → is_none (entry_of es (variable_of l)) ≡ false
has_some [] l is = absurd cc
has_some (x ∷ xs) l is = by_tests (variable_of x.lit == variable_of l) (int_eq x.lit l) refl refl is (has_some xs l) where
  by_tests : (b t : Bool) → (variable_of x.lit == variable_of l) ≡ b → int_eq x.lit l ≡ t → (t || has xs l) ≡ true → (has xs l ≡ true → is_none (entry_of xs (variable_of l)) ≡ false) → is_none (cond b (Some x) (entry_of xs (variable_of l))) ≡ false
  by_tests true t same at either rest = refl
  by_tests false true other at either rest = absurd (unlike (eq-eqb (variable_of x.lit) (variable_of l) (ap variable_of ((Decides-int_eq x.lit l).0 at))) other)
  by_tests false false other at either rest = rest either

has_dropped : (es : List Entry) (k : ℕ) (l : ℤ) → has (drop k es) l ≡ true → has es l ≡ true
has_dropped es k l is =
    ap (λ (xs : List Entry). has xs l) (sym (take-append-drop k es))
    ∙ list_any-append (λ (e : Entry). int_eq e.lit l) (take k es) (drop k es)
    ∙ either (has (take k es) l) (has (drop k es) l) is where
      either : (a b : Bool) → b ≡ true → (a || b) ≡ true
      either true b is' = refl
      either false b is' = is'

literal_had : (vars : ℕ) (es : List Entry) (l : ℤ) → is_within vars (literals_of es) ≡ true → has es l ≡ true → is_literal_of vars l ≡ true
literal_had vars [] l within is = absurd cc
literal_had vars (e ∷ es) l within is =
    let parts = and_parts (is_literal_of vars e.lit) (is_within vars (literals_of es)) within in
    by_first (int_eq e.lit l) refl is parts.0 (literal_had vars es l parts.1) where
      by_first : (b : Bool) → int_eq e.lit l ≡ b → (b || has es l) ≡ true → is_literal_of vars e.lit ≡ true → (has es l ≡ true → is_literal_of vars l ≡ true) → is_literal_of vars l ≡ true
      by_first true same either literal later = ap (is_literal_of vars) (sym ((Decides-int_eq e.lit l).0 same)) ∙ literal
      by_first false same either literal later = later either

-- a false literal is one of the trail's variables
pub false_within : (trail : TrailState) (l : ℤ) → IsTrail trail → HasNegated trail.entries l → (1 ≤ variable_of l) × (variable_of l ≤ trail.vars)
false_within trail l h false_ =
    let bounds = variable_bounds trail.vars (variable_of (negation l)) (literal_had trail.vars trail.entries (negation l) h.within false_) in
    (omega (arith, bounds.0, variable_of-negation l), omega (arith, bounds.1, variable_of-negation l))

pub consistent_trail : (trail : TrailState) → IsTrail trail → IsConsistent trail.entries
consistent_trail trail h = consistent trail.vars trail.entries h.within h.once

-- no literal stands in both parts of a trail
pub apart : (es : List Entry) (k : ℕ) (l : ℤ) → has_variables_once es ≡ true → has (take k es) l ≡ true → has (drop k es) l ≡ true → ⊥
apart [] zero l once early late = absurd cc
apart [] (suc k) l once early late = absurd cc
apart (x ∷ xs) zero l once early late = absurd cc
apart (x ∷ xs) (suc k) l once early late =
    let parts = and_parts (is_none (entry_of xs (variable_of x.lit))) (has_variables_once xs) once in
    by_test (int_eq x.lit l) refl early (λ is. apart xs k l parts.1 is late) parts.0 where
      by_test : (t : Bool) → int_eq x.lit l ≡ t → (t || has (take k xs) l) ≡ true → (has (take k xs) l ≡ true → ⊥) → is_none (entry_of xs (variable_of x.lit)) ≡ true → ⊥
      by_test true at either rest none = unlike none (ap (λ m. is_none (entry_of xs (variable_of m))) ((Decides-int_eq x.lit l).0 at) ∙ has_some xs l (has_dropped xs k l late))
      by_test false at either rest none = rest either

-- the entry of a variable
pub record IsEntryAt (es : List Entry) (v k : ℕ) (e : Entry) : Type 0 where
  pub place : place_of es v ≡ Some k
  pub here : slice_get es k ≡ Some e
  pub of_variable : variable_of e.lit ≡ v

position_is : (n k : ℕ) → n < k → cond (nat_lt n k) (Some n) None ≡ Some n
position_is n k lt = grind (arith, nat_tests)

pub entry_at : (es : List Entry) (v : ℕ) (e : Entry) → entry_of es v ≡ Some e → (k : ℕ) × IsEntryAt es v k e
entry_at es v e found =
    let k = position_or_len (λ (x : Entry). variable_of x.lit == v) es in
    let here : slice_get es k ≡ Some e = sym (find_at (λ (x : Entry). variable_of x.lit == v) es) ∙ found in
    (k, record { place = position_is k (length es) (slice_get_within es k e here); here = here; of_variable = variable-entry_of es v e found })

levels_at : (n : ℕ) (es : List Entry) (k : ℕ) → k < length es → get_or (levels_after n es) k 0 ≡ n + decisions (take (suc k) es)
levels_at n [] k lt = absurd (omega (arith, lt))
levels_at n (x ∷ xs) zero lt = first (is_decision x) ∙ ap (λ k. n + k) (sym (decisions_cons x [])) where
  first : (b : Bool) → cond b (n + 1) n ≡ n + (cond b 1 0 + 0)
  first true = omega arith
  first false = omega arith
levels_at n (x ∷ xs) (suc k) lt =
    levels_at (cond (is_decision x) (n + 1) n) xs k (omega (arith, lt)) ∙ rest (is_decision x) (decisions (take (suc k) xs)) ∙ ap (λ m. n + m) (sym (decisions_cons x (take (suc k) xs))) where
      rest : (b : Bool) (m : ℕ) → cond b (n + 1) n + m ≡ n + (cond b 1 0 + m)
      rest true m = omega arith
      rest false m = omega arith

-- the level of each entry is the number of decisions up to it
pub level_at : (trail : TrailState) (k : ℕ) (e : Entry) → IsTrail trail → slice_get trail.entries k ≡ Some e → e.level ≡ decisions (take (k + 1) trail.entries)
level_at trail k e h here =
    let es = trail.entries in
    let lt = slice_get_within es k e here in
    ap (λ (x : Entry). x.level) (sym (get_or_from_slice_get es k e e here))
    ∙ sym (get_or-map (λ (x : Entry). x.level) es k e 0 lt)
    ∙ ap (λ ns. get_or ns k 0) h.levels
    ∙ levels_at 0 es k lt
    ∙ (let one : suc k ≡ k + 1 = omega arith in ap (λ n. 0 + decisions (take n es)) one)
    ∙ zero-add (decisions (take (k + 1) es))

pub decisions_rise : (es : List Entry) (j k : ℕ) → j ≤ k → decisions (take j es) ≤ decisions (take k es)
decisions_rise es j k le =
    let same : take j (take k es) ≡ take j es = take_take es j k le in
    omega (arith, sum_by-take-le (λ (e : Entry). cond (is_decision e) 1 0) (take k es) j, ap decisions same) where
      take_take : (es : List Entry) (j k : ℕ) → j ≤ k → take j (take k es) ≡ take j es
      take_take es zero k le = refl
      take_take [] (suc j) zero le = refl
      take_take [] (suc j) (suc k) le = refl
      take_take (x ∷ xs) (suc j) zero le = absurd (omega (arith, le))
      take_take (x ∷ xs) (suc j) (suc k) le = ap (λ (ys : List Entry). x ∷ ys) (take_take xs j k (omega (arith, le)))

decision_counts : (es : List Entry) (k : ℕ) (e : Entry) → slice_get es k ≡ Some e → is_decision e ≡ true → decisions (take (k + 1) es) ≡ decisions (take k es) + 1
decision_counts es k e here is = count_by_more_yes is_decision es k e (slice_get_within es k e here) (ap is_decision (get_or_from_slice_get es k e e here) ∙ is)

no_decision : (e : Entry) → (is_decision e ≡ true → ⊥) → is_decision e ≡ false
no_decision e not_so = elim (is_decision e) as (λ b. is_decision e ≡ b → b ≡ false) [ true ↦ λ is. absurd (not_so is) | false ↦ λ _. refl ] refl

-- behind an entry of the current level no entry is a decision, and all are of that level
pub behind_current : (trail : TrailState) (j k : ℕ) (e : Entry) → IsTrail trail → decisions (take (j + 1) trail.entries) ≡ trail.current → j < k → slice_get trail.entries k ≡ Some e → (is_decision e ≡ false) × (e.level ≡ trail.current)
behind_current trail j k e h at lt here =
    let es = trail.entries in
    let most = sum_by-take-le (λ (x : Entry). cond (is_decision x) 1 0) es (k + 1) in (
      no_decision e (λ is. omega (arith, decision_counts es k e here is, decisions_rise es (j + 1) k (omega (arith, lt)), at, h.current, most)),
      omega (arith, level_at trail k e h here, decisions_rise es (j + 1) (k + 1) (omega (arith, lt)), at, h.current, most),
    )

-- at level 0 no entry is a decision
pub none_decided : (trail : TrailState) (k : ℕ) (e : Entry) → IsTrail trail → trail.current ≡ 0 → slice_get trail.entries k ≡ Some e → is_decision e ≡ false
none_decided trail k e h none here =
    no_decision e (λ is. omega (arith, decision_counts trail.entries k e here is, h.current, none, sum_by-take-le (λ (x : Entry). cond (is_decision x) 1 0) trail.entries (k + 1)))

-- the entry at a place is found by its variable
pub entry_of_here : (es : List Entry) (k : ℕ) (e : Entry) → has_variables_once es ≡ true → slice_get es k ≡ Some e → entry_of es (variable_of e.lit) ≡ Some e
entry_of_here [] k e once here = absurd cc
entry_of_here (x ∷ xs) zero e once here =
    let same : x ≡ e = cc in
    entry_of-cons_same x xs (variable_of e.lit) (ap (λ (y : Entry). variable_of y.lit) same) ∙ ap Some same
entry_of_here (x ∷ xs) (suc k) e once here =
    let parts = and_parts (is_none (entry_of xs (variable_of x.lit))) (has_variables_once xs) once in
    let rest = entry_of_here xs k e parts.1 here in
    entry_of-cons_other x xs (variable_of e.lit) (λ same. unlike parts.0 (ap (λ v. is_none (entry_of xs v)) same ∙ ap is_none rest)) ∙ rest

-- the literal of an entry is true
pub has_here : (es : List Entry) (k : ℕ) (e : Entry) → slice_get es k ≡ Some e → has es e.lit ≡ true
has_here es k e here =
    list_any_at (λ (x : Entry). int_eq x.lit e.lit) es k e (slice_get_within es k e here) ((Decides-int_eq (get_or es k e).lit e.lit).1 (ap (λ (x : Entry). x.lit) (get_or_from_slice_get es k e e here)))

-- of the entries up to a place with itself, the literal is of an earlier one or of that one
pub has_more : (es : List Entry) (k : ℕ) (e : Entry) (l : ℤ) → slice_get es k ≡ Some e → has (take (k + 1) es) l ≡ true → (has (take k es) l ≡ true) ⊎ (e.lit ≡ l)
has_more es k e l here is =
    let grown : take (k + 1) es ≡ take k es ++ e ∷ [] = take_more es k e (slice_get_within es k e here) ∙ ap (λ (x : Entry). take k es ++ x ∷ []) (get_or_from_slice_get es k e e here) in
    by_tests (has (take k es) l) (int_eq e.lit l) refl refl (sym (list_any-append (λ (x : Entry). int_eq x.lit l) (take k es) (e ∷ [])) ∙ ap (λ (xs : List Entry). has xs l) (sym grown) ∙ is) where
      by_tests : (a b : Bool) → has (take k es) l ≡ a → int_eq e.lit l ≡ b → (a || (b || false)) ≡ true → (has (take k es) l ≡ true) ⊎ (e.lit ≡ l)
      by_tests true b early at either = inl early
      by_tests false true early at either = inr ((Decides-int_eq e.lit l).0 at)
      by_tests false false early at either = absurd cc

pub has_wider : (es : List Entry) (k : ℕ) (l : ℤ) → has (take k es) l ≡ true → has (take (k + 1) es) l ≡ true
has_wider es k l is = list_any_kept (λ (x : Entry). int_eq x.lit l) es k is

-- the literal at a place stands in the rest of the trail from there
pub has_rest : (es : List Entry) (k : ℕ) (e : Entry) → slice_get es k ≡ Some e → has (drop k es) e.lit ≡ true
has_rest [] k e here = absurd cc
has_rest (x ∷ xs) zero e here =
    let same : x ≡ e = cc in
    ap (λ b. b || has xs e.lit) ((Decides-int_eq x.lit e.lit).1 (ap (λ (y : Entry). y.lit) same))
has_rest (x ∷ xs) (suc k) e here = has_rest xs k e here
