-- What holds of the visited literals and of what is known of their variables, kept as they change.
use Rattle.std.proofs.Common.{◌≡◌, ◌≢◌, ℕ, zero, suc, ◌+◌, ◌-◌, ◌<◌, ◌≤◌, Bool, true, false, not, ◌||◌, cond, List, [], ◌∷◌, ◌++◌, length, get_or, set, refl, sym, ap, subst, ◌∙◌, inl, inr, arith}
use Rattle.std.specs.Prelude.{ℤ, Contains, count_by, ◌==◌}
use Rattle.std.specs.List.{list_any}
use Rattle.std.specs.Cmp.Derive.{both_true}
use Rattle.std.proofs.lemmas.List.{get_or_read, length-set, length_push, get_or-set_other}
use Rattle.std.proofs.lemmas.Grind.{get_or-set_at}
use Rattle.std.proofs.lemmas.List.Sums.{sum_by-set, count_by-le-length, AllPass-from_list_all}
use Rattle.std.proofs.lemmas.List.Folds.{list_any-append, list_all-append}
use Rattle.std.proofs.lemmas.List.Elements.{Contains-append_left, Contains-push, Contains-push_cases, All-contains}
use Rattle.std.proofs.lemmas.Bool.{and_parts, eq-eqb, ne_eqb}
use Rattle.std.proofs.lemmas.Bool.Decides.{eqb_tells}
use Rattle.lls_lit.specs.Literal.{variable_of}
use Rattle.lls_lit.specs.Formula.{is_literal_of, is_within}
use Rattle.lls_prooflog.specs.Spent.{has_variables_once}
use Rattle.lls_store.proofs.Tabled.{variable_bounds, variable_within}
use Rattle.lls_analyse.specs.declared.visited.Seen.{Seen}
use Rattle.lls_analyse.specs.declared.visited.Seen.TheVariants.{No, Open, Kept, Followed}
use Rattle.lls_analyse.specs.Visited.{is_seen, is_open, status, AreVisited, AreKept}

pub unlike : {b : Bool} → b ≡ true → b ≡ false → ⊥
unlike is clash = cc

abbrev one_if : Bool → ℕ
one_if b = cond b 1 0

-- a count where one of the table changes
pub count_by-set : (p : Seen → Bool) (seen : List Seen) (i : ℕ) (s : Seen) → i < length seen → count_by p (set seen i s) + cond (p (get_or seen i No)) 1 0 ≡ count_by p seen + cond (p s) 1 0
count_by-set p seen i s lt = sum_by-set (λ (x : Seen). cond (p x) 1 0) seen i s No lt

-- where something isn't known, not all is
pub some_unseen : (seen : List Seen) (i : ℕ) → i < length seen → is_seen (get_or seen i No) ≡ false → count_by is_seen seen < length seen
some_unseen seen i lt none = omega (arith, count_by-set is_seen seen i Kept lt, ap one_if none, count_by-le-length is_seen (set seen i Kept), length-set seen i Kept)

pub once_push : (lits : List ℤ) (l : ℤ) → has_variables_once lits ≡ true → ((m : ℤ) → Contains lits m → variable_of m ≢ variable_of l) → has_variables_once (lits ++ l ∷ []) ≡ true
once_push [] l once other = refl
once_push (x ∷ xs) l once other =
    let parts = and_parts (not (list_any (λ m. variable_of m == variable_of x) xs)) (has_variables_once xs) once in
    let apart : (variable_of l == variable_of x) ≡ false = ne_eqb (variable_of l) (variable_of x) (λ same. other x (0, omega arith, refl) (sym same)) in
    both_true
    (ap not (list_any-append (λ m. variable_of m == variable_of x) xs (l ∷ []) ∙ ap (λ b. list_any (λ m. variable_of m == variable_of x) xs || (b || false)) apart ∙ or_false (list_any (λ m. variable_of m == variable_of x) xs)) ∙ parts.0)
    (once_push xs l parts.1 (λ m inside. other m (let (k, lt, at) = inside in (suc k, omega (arith, lt), at)))) where
      or_false : (b : Bool) → (b || (false || false)) ≡ b
      or_false true = refl
      or_false false = refl

pub once_popped : (lits : List ℤ) (l : ℤ) → has_variables_once (lits ++ l ∷ []) ≡ true → (has_variables_once lits ≡ true) × ((m : ℤ) → Contains lits m → variable_of m ≢ variable_of l)
once_popped [] l once = (refl, λ m (k, lt, at). absurd (omega (arith, lt)))
once_popped (x ∷ xs) l once =
    let parts = and_parts (not (list_any (λ m. variable_of m == variable_of x) (xs ++ l ∷ []))) (has_variables_once (xs ++ l ∷ [])) once in
    let rest = once_popped xs l parts.1 in
    let fresh = neither (list_any (λ m. variable_of m == variable_of x) xs) (variable_of l == variable_of x) (ap not (sym (list_any-append (λ m. variable_of m == variable_of x) xs (l ∷ []))) ∙ parts.0) in (
      both_true (ap not fresh.0) rest.0,
      λ m (k, lt, at). first_or_later rest.1 fresh.1 k m lt at,
    ) where
      neither : (a b : Bool) → not (a || (b || false)) ≡ true → (a ≡ false) × (b ≡ false)
      neither true b is = absurd cc
      neither false true is = absurd cc
      neither false false is = (refl, refl)

      first_or_later : ((m : ℤ) → Contains xs m → variable_of m ≢ variable_of l) → (variable_of l == variable_of x) ≡ false → (k : ℕ) (m : ℤ) → k < length (x ∷ xs) → get_or (x ∷ xs) k m ≡ m → variable_of m ≢ variable_of l
      first_or_later later apart zero m lt at = λ same. unlike (eq-eqb (variable_of l) (variable_of x) (sym same ∙ ap variable_of (sym at))) apart
      first_or_later later apart (suc k) m lt at = later m (k, omega (arith, lt), at)

status_other : (seen : List Seen) (i : ℕ) (s : Seen) (m : ℤ) → 1 ≤ variable_of m → variable_of m ≢ i + 1 → status (set seen i s) m ≡ status seen m
status_other seen i s m low other = get_or-set_other seen i (variable_of m - 1) s No (λ same. other (omega (arith, same, low)))

pub literal_within : (vars : ℕ) (lits : List ℤ) (m : ℤ) → is_within vars lits ≡ true → Contains lits m → (1 ≤ variable_of m) × (variable_of m ≤ vars)
literal_within vars lits m within inside =
    variable_bounds vars (variable_of m) (All-contains (λ l. is_literal_of vars l ≡ true) lits m (AllPass-from_list_all (is_literal_of vars) lits within) inside)

within_push : (vars : ℕ) (lits : List ℤ) (l : ℤ) → is_within vars lits ≡ true → is_literal_of vars l ≡ true → is_within vars (lits ++ l ∷ []) ≡ true
within_push vars lits l all one = rw (list_all-append (is_literal_of vars) lits (l ∷ []), all, one) refl

within_popped : (vars : ℕ) (lits : List ℤ) (l : ℤ) → is_within vars (lits ++ l ∷ []) ≡ true → (is_within vars lits ≡ true) × (is_literal_of vars l ≡ true)
within_popped vars lits l all =
    let parts = and_parts (is_within vars lits) (is_within vars (l ∷ [])) (sym (list_all-append (is_literal_of vars) lits (l ∷ [])) ∙ all) in
    (parts.0, (and_parts (is_literal_of vars l) true parts.1).0)

-- a literal more
pub AreVisited-visit : (vars : ℕ) (seen : List Seen) (lits : List ℤ) (i : ℕ) (l : ℤ) (s : Seen) → AreVisited (record { vars = vars; seen = seen; lits = lits }) → i + 1 ≡ variable_of l → variable_of l ≤ vars → is_seen (get_or seen i No) ≡ false → is_seen s ≡ true
    → AreVisited (record { vars = vars; seen = set seen i s; lits = lits ++ l ∷ [] })
AreVisited-visit vars seen lits i l s h at most none some =
    let inside : i < length seen = omega (arith, h.each, at, most) in
    let of_l : status seen l ≡ get_or seen i No = ap (λ n. get_or seen n No) (omega (arith, at)) in
    let other : (m : ℤ) → Contains lits m → variable_of m ≢ variable_of l = λ m stands same. unlike (h.all_seen m stands) (ap (λ v. is_seen (get_or seen (v - 1) No)) same ∙ ap is_seen of_l ∙ none) in
    record {
      vars_fit = h.vars_fit;
      each = length-set seen i s ∙ h.each;
      within = within_push vars lits l h.within (variable_within vars (variable_of l) (omega (arith, at)) most);
      once = once_push lits l h.once other;
      all_seen = λ m stands. elim (Contains-push_cases lits l m stands) [
        | inl before ↦ ap is_seen (status_other seen i s m (literal_within vars lits m h.within before).0 (λ same. other m before (same ∙ at))) ∙ h.all_seen m before
        | inr same ↦ ap is_seen (get_or-set_at seen i (variable_of m - 1) s No (omega (arith, at, ap variable_of same)) inside) ∙ some
      ];
      listed = λ j is. elim (eqb_tells j i) [
        | inl t ↦ record { lit = l; stands = Contains-push lits l; of_variable = sym at ∙ ap (λ k. k + 1) (sym t.1) }
        | inr t ↦
            let old = h.listed j (ap is_seen (sym (get_or-set_other seen i j s No t.1)) ∙ is) in
            record { lit = old.lit; stands = Contains-append_left lits (l ∷ []) old.lit old.stands; of_variable = old.of_variable }
      ];
      counted = omega (arith, count_by-set is_seen seen i s inside, ap one_if none, ap one_if some, h.counted, length_push lits l);
    }

-- a literal less
pub AreVisited-forget : (vars : ℕ) (seen : List Seen) (lits : List ℤ) (i : ℕ) (l : ℤ) → AreVisited (record { vars = vars; seen = seen; lits = lits ++ l ∷ [] }) → i + 1 ≡ variable_of l
    → AreVisited (record { vars = vars; seen = set seen i No; lits = lits })
AreVisited-forget vars seen lits i l h at =
    let withins = within_popped vars lits l h.within in
    let bounds = variable_bounds vars (variable_of l) withins.1 in
    let inside : i < length seen = omega (arith, h.each, at, bounds.1) in
    let onces = once_popped lits l h.once in
    let was : is_seen (get_or seen i No) ≡ true = ap (λ n. is_seen (get_or seen n No)) (omega (arith, at)) ∙ h.all_seen l (Contains-push lits l) in
    record {
      vars_fit = h.vars_fit;
      each = length-set seen i No ∙ h.each;
      within = withins.0;
      once = onces.0;
      all_seen = λ m stands. ap is_seen (status_other seen i No m (literal_within vars lits m withins.0 stands).0 (λ same. onces.1 m stands (same ∙ at))) ∙ h.all_seen m (Contains-append_left lits (l ∷ []) m stands);
      listed = λ j is. elim (eqb_tells j i) [
        | inl t ↦ absurd (unlike is (ap is_seen (get_or-set_at seen i j No No t.1 inside)))
        | inr t ↦
            let old = h.listed j (ap is_seen (sym (get_or-set_other seen i j No No t.1)) ∙ is) in
            elim (Contains-push_cases lits l old.lit old.stands) [
              | inl before ↦ record { lit = old.lit; stands = before; of_variable = old.of_variable }
              | inr same ↦ absurd (t.1 (omega (arith, old.of_variable, ap variable_of same, at)))
            ]
      ];
      counted = omega (arith, count_by-set is_seen seen i No inside, ap one_if was, h.counted, length_push lits l);
    }

pub AreKept-visit : (vars : ℕ) (seen : List Seen) (lits : List ℤ) (room opens i : ℕ) (l : ℤ) (s : Seen) → AreKept (record { vars = vars; seen = seen; lits = lits }) room opens → i + 1 ≡ variable_of l → variable_of l ≤ vars → is_seen (get_or seen i No) ≡ false → is_seen s ≡ true
    → AreKept (record { vars = vars; seen = set seen i s; lits = lits ++ l ∷ [] }) room (opens + cond (is_open s) 1 0)
AreKept-visit vars seen lits room opens i l s h at most none some = record {
  visited = AreVisited-visit vars seen lits i l s h.visited at most none some;
  room_for_all = h.room_for_all;
  opened = omega (arith, count_by-set is_open seen i s (omega (arith, h.visited.each, at, most)), h.opened, ap one_if (closed (get_or seen i No) none));
} where
  closed : (x : Seen) → is_seen x ≡ false → is_open x ≡ false
  closed No none = refl
  closed Open none = absurd cc
  closed Kept none = refl
  closed Followed none = refl

pub AreKept-forget : (vars : ℕ) (seen : List Seen) (all lits : List ℤ) (room opens i : ℕ) (l : ℤ) (read : Seen) → AreKept (record { vars = vars; seen = seen; lits = all }) room opens → all ≡ lits ++ l ∷ [] → i + 1 ≡ variable_of l → read ≡ get_or seen i read
    → AreKept (record { vars = vars; seen = set seen i No; lits = lits }) room (opens - cond (is_open read) 1 0)
AreKept-forget vars seen all lits room opens i l read h splits at is =
    let P : List ℤ → Type 0 = λ ls. AreVisited (record { vars = vars; seen = seen; lits = ls }) in
    let before = subst P splits h.visited in
    let most = (variable_bounds vars (variable_of l) (within_popped vars lits l before.within).1).1 in
    let inside : i < length seen = omega (arith, before.each, at, most) in
    record {
      visited = AreVisited-forget vars seen lits i l before at;
      room_for_all = h.room_for_all;
      opened = omega (arith, count_by-set is_open seen i No inside, h.opened, ap (λ x. one_if (is_open x)) (get_or_read seen i read inside is No));
    }
