-- The highest level of literals, and what a cut to it leaves of a conflict.
use Rattle.std.proofs.Common.{◌≡◌, inl, inr, ℕ, ◌+◌, ◌<◌, ◌≤◌, Bool, true, false, cond, List, [], ◌∷◌, ◌++◌, map, Option, Some, None, refl, sym, ap, subst, ◌∙◌, arith}
use Rattle.std.specs.Prelude.{ℤ, Contains, max, nat_le, option_map}
use Rattle.std.specs.Option.{unwrap_or}
use Rattle.std.specs.Ordering.{ord_max, nat_cmp}
use Rattle.std.proofs.lemmas.Bool.Decides.{nat_tests, eqb_tells}
use Rattle.std.proofs.lemmas.List.Sums.{count_by-le-length, take_while-cons}
use Rattle.std.proofs.lemmas.List.Elements.{Contains-push_cases, Contains-append_left, Contains-append_right}
use Rattle.std.proofs.lemmas.Bool.{cases_lt}
use Rattle.lls_lit.specs.Literal.{variable_of, negation}
use Rattle.lls_store.specs.Trail.{Entry, IsTrail, TrailState, HasNegated, has, decisions, is_decision, entry_of, level_of, levels_after}
use Rattle.lls_store.specs.Changes.{entries_up_to, cut_to}
use Rattle.lls_store.proofs.Entries.{decisions_cons, entry_of-cons_same, entry_of-cons_other}
use Rattle.lls_store.proofs.Values.{has-entry_of, has_found, variable_of-negation}
use Rattle.std.specs.FinSet as set
use Rattle.lls_store.specs.Clauses.{LiveClause, IsIn}
use Rattle.lls_store.specs.Store.{IsConflict}
use Rattle.lls_store.proofs.Sets.{Contains-from_IsIn, IsIn-from_Contains}
use Rattle.lls_analyse.specs.Learnt.{IsCurrentConflict}
use Rattle.lls_solver.specs.Conflict.{IsOfLevel, IsHighest}

step_level : (b : Bool) (n count : ℕ) → (n ≤ cond b (n + 1) n) × (cond b (n + 1) n + count ≤ n + (cond b 1 0 + count))
step_level true n count = (omega arith, omega arith)
step_level false n count = (omega arith, omega arith)

both_same : (a b : ℕ) (xs ys : List ℕ) → a ∷ xs ≡ b ∷ ys → (a ≡ b) × (xs ≡ ys)
both_same a b xs ys h = (cc, cc)

-- the level of an entry lies between the decisions before the entries and those with them
pub record IsBetween (n : ℕ) (es : List Entry) (e : Entry) : Type 0 where
  pub least : n ≤ e.level
  pub most : e.level ≤ n + decisions es

pub level_between : (n : ℕ) (es : List Entry) (v : ℕ) (e : Entry) → map (λ (x : Entry). x.level) es ≡ levels_after n es → entry_of es v ≡ Some e → IsBetween n es e
level_between n [] v e levels is = absurd cc
level_between n (x ∷ es) v e levels is =
    let now = cond (is_decision x) (n + 1) n in
    let parts = both_same x.level now (map (λ (y : Entry). y.level) es) (levels_after now es) levels in
    let step = step_level (is_decision x) n (decisions es) in
    let total = decisions_cons x es in
    elim (eqb_tells (variable_of x.lit) v) [
      | inl t ↦
          let same : x ≡ e = cc_some x e (sym (entry_of-cons_same x es v t.1) ∙ is) in
          let level : e.level ≡ now = sym (ap (λ (y : Entry). y.level) same) ∙ parts.0 in
          record { least = omega (arith, level, step.0); most = omega (arith, level, step.1, total) }
      | inr t ↦
          let later = level_between now es v e parts.1 (sym (entry_of-cons_other x es v t.1) ∙ is) in
          record { least = omega (arith, later.least, step.0); most = omega (arith, later.most, step.1, total) }
    ] where
      cc_some : (a b : Entry) → Some a ≡ Some b → a ≡ b
      cc_some a b e = cc

-- an entry up to the level stays where the trail is cut to it
pub entry_of-up_to : (n level : ℕ) (es : List Entry) (v : ℕ) (e : Entry) → map (λ (x : Entry). x.level) es ≡ levels_after n es → entry_of es v ≡ Some e → e.level ≤ level → entry_of (entries_up_to level es) v ≡ Some e
entry_of-up_to n level [] v e levels is low = absurd cc
entry_of-up_to n level (x ∷ es) v e levels is low =
    let now = cond (is_decision x) (n + 1) n in
    let parts = both_same x.level now (map (λ (y : Entry). y.level) es) (levels_after now es) levels in
    elim (eqb_tells (variable_of x.lit) v) [
      | inl t ↦
          let same : x ≡ e = cc_some x e (sym (entry_of-cons_same x es v t.1) ∙ is) in
          let x_low : nat_le x.level level ≡ true = is_le x.level level (omega (arith, low, ap (λ (y : Entry). y.level) same)) in
          ap (λ ys. entry_of ys v) (take_while-cons (λ (y : Entry). nat_le y.level level) x es ∙ ap (λ b. cond b (x ∷ entries_up_to level es) []) x_low)
          ∙ entry_of-cons_same x (entries_up_to level es) v t.1 ∙ ap Some same
      | inr t ↦
          let found = sym (entry_of-cons_other x es v t.1) ∙ is in
          let later = level_between now es v e parts.1 found in
          let x_low : nat_le x.level level ≡ true = is_le x.level level (omega (arith, low, later.least, parts.0)) in
          ap (λ ys. entry_of ys v) (take_while-cons (λ (y : Entry). nat_le y.level level) x es ∙ ap (λ b. cond b (x ∷ entries_up_to level es) []) x_low)
          ∙ entry_of-cons_other x (entries_up_to level es) v t.1 ∙ entry_of-up_to now level es v e parts.1 found low
    ] where
      cc_some : (a b : Entry) → Some a ≡ Some b → a ≡ b
      cc_some a b e = cc

      is_le : (a b : ℕ) → a ≤ b → nat_le a b ≡ true
      is_le a b le = grind (arith, nat_tests)

-- no level is above the current one
pub level_most : (t : TrailState) (v level : ℕ) → IsTrail t → level_of t.entries v ≡ Some level → level ≤ t.current
level_most t v level h is = at (entry_of t.entries v) refl is where
  at : (o : Option Entry) → entry_of t.entries v ≡ o → option_map (λ (e : Entry). e.level) o ≡ Some level → level ≤ t.current
  at None found same = absurd cc
  at (Some e) found same =
      let equal : e.level ≡ level = cc in
      omega (arith, (level_between 0 t.entries v e h.levels found).most, h.current, equal)

-- one literal more
pub highest_next : (t : TrailState) (lits : List ℤ) (l : ℤ) (highest next : ℕ) → IsHighest t lits highest → next ≡ max highest (unwrap_or (level_of t.entries (variable_of l)) 0) → IsHighest t (lits ++ l ∷ []) next
highest_next t lits l highest next h is = record { bound = bound; reached = reached } where
  worth : ℕ
  worth = unwrap_or (level_of t.entries (variable_of l)) 0

  bound : (m : ℤ) (other : ℕ) → Contains (lits ++ l ∷ []) m → level_of t.entries (variable_of m) ≡ Some other → other ≤ next
  bound m other contains of_level = elim (Contains-push_cases lits l m contains) [
    | inl before ↦ omega (arith, is, h.bound m other before of_level)
    | inr same ↦
        let value : worth ≡ other = ap (λ o. unwrap_or o 0) (ap (λ k. level_of t.entries (variable_of k)) same ∙ of_level) in
        omega (arith, is, value)
  ]

  last_of : (o : Option ℕ) → level_of t.entries (variable_of l) ≡ o → 0 < unwrap_or o 0 → IsOfLevel t (lits ++ l ∷ []) (unwrap_or o 0)
  last_of None same some = absurd (omega (arith, some))
  last_of (Some n) same some = record { literal = l; contained = Contains-append_right lits (l ∷ []) l (0, omega arith, refl); of_level = same }

  reached : 0 < next → IsOfLevel t (lits ++ l ∷ []) next
  reached some = elim (cases_lt highest worth) [
    | inl greater ↦
        let same : worth ≡ next = omega (arith, is, greater) in
        subst (IsOfLevel t (lits ++ l ∷ [])) same (last_of (level_of t.entries (variable_of l)) refl (omega (arith, same, some)))
    | inr less ↦
        let same : highest ≡ next = omega (arith, is, less) in
        let old = h.reached (omega (arith, same, some)) in
        subst (IsOfLevel t (lits ++ l ∷ [])) same (record { literal = old.literal; contained = Contains-append_left lits (l ∷ []) old.literal old.contained; of_level = old.of_level })
  ]

-- no more levels begin than there are variables
pub current_most : (t : TrailState) → IsTrail t → t.current ≤ t.vars
current_most t h = omega (arith, h.current, h.most, count_by-le-length is_decision t.entries)

pub worth_most : (t : TrailState) (v : ℕ) → IsTrail t → unwrap_or (level_of t.entries v) 0 ≤ t.current
worth_most t v h = at (level_of t.entries v) refl where
  at : (o : Option ℕ) → level_of t.entries v ≡ o → unwrap_or o 0 ≤ t.current
  at None same = omega arith
  at (Some n) same = level_most t v n h same

-- the greater of two numbers, as code finds it
pub ord_max-nat : (a b : ℕ) → ord_max nat_cmp a b ≡ max a b
ord_max-nat a b = grind (arith, nat_tests)

-- a false literal up to the level stays false where the trail is cut to it
pub negated_up_to : (t : TrailState) (level : ℕ) (l : ℤ) → IsTrail t → IsTrail (cut_to t level) → ((n : ℕ) → level_of t.entries (variable_of l) ≡ Some n → n ≤ level) → HasNegated t.entries l → HasNegated (entries_up_to level t.entries) l
negated_up_to t level l h cut low negated = at (entry_of t.entries v) refl where
  m : ℤ
  m = negation l

  v : ℕ
  v = variable_of m

  at : (o : Option Entry) → entry_of t.entries v ≡ o → has (entries_up_to level t.entries) m ≡ true
  at None found =
      let clash : false ≡ true = sym (has-entry_of t.entries m h.once ∙ ap (λ o. has_found o m) found) ∙ negated in
      absurd cc
  at (Some e) found =
      let of_level : level_of t.entries (variable_of l) ≡ Some e.level = ap (level_of t.entries) (sym (variable_of-negation l)) ∙ ap (option_map (λ (x : Entry). x.level)) found in
      let kept = entry_of-up_to 0 level t.entries v e h.levels found (low e.level of_level) in
      has-entry_of (entries_up_to level t.entries) m cut.once ∙ ap (λ o. has_found o m) (kept ∙ sym found) ∙ sym (has-entry_of t.entries m h.once) ∙ negated

pub level_of-up_to : (t : TrailState) (level v n : ℕ) → IsTrail t → level_of t.entries v ≡ Some n → n ≤ level → level_of (entries_up_to level t.entries) v ≡ Some n
level_of-up_to t level v n h is low = at (entry_of t.entries v) refl is where
  at : (o : Option Entry) → entry_of t.entries v ≡ o → option_map (λ (e : Entry). e.level) o ≡ Some n → level_of (entries_up_to level t.entries) v ≡ Some n
  at None found same = absurd cc
  at (Some e) found same =
      let equal : e.level ≡ n = cc in
      ap (option_map (λ (x : Entry). x.level)) (entry_of-up_to 0 level t.entries v e h.levels found (omega (arith, equal, low))) ∙ ap Some equal

-- a conflict stays one where the trail is cut to the highest level of its literals
pub conflict_up_to : (live : List LiveClause) (t : TrailState) (number level : ℕ) (lits : List ℤ) → IsTrail t → IsTrail (cut_to t level) → (conflict : IsConflict live t number) → set.from_list lits ≡ conflict.clause.lits → IsHighest t lits level → IsConflict live (cut_to t level) number
conflict_up_to live t number level lits h cut conflict same highest = record {
  clause = conflict.clause;
  is_live = conflict.is_live;
  all_false = λ l is. negated_up_to t level l h cut (λ n of_level. highest.bound l n (Contains-from_IsIn lits l (subst (λ ls. IsIn ls l) (sym same) is)) of_level) (conflict.all_false l is);
}

pub current_up_to : (live : List LiveClause) (t : TrailState) (number level : ℕ) (lits : List ℤ) → (h : IsTrail t) → (cut : IsTrail (cut_to t level)) → (conflict : IsConflict live t number) → (same : set.from_list lits ≡ conflict.clause.lits) → (highest : IsHighest t lits level) → 0 < level → IsCurrentConflict live (cut_to t level) number
unfolding conflict_up_to
current_up_to live t number level lits h cut conflict same highest above =
    let one = highest.reached above in
    record {
      conflict = conflict_up_to live t number level lits h cut conflict same highest;
      literal = one.literal;
      is_current = record {
        is_in = subst (λ ls. IsIn ls one.literal) same (IsIn-from_Contains lits one.literal one.contained);
        of_level = level_of-up_to t level (variable_of one.literal) level h one.of_level (omega arith);
      };
    }
