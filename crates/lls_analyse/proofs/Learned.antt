-- A clause gathered from what is held may be learnt.
use Rattle.std.proofs.Common.{◌≡◌, ◌≢◌, ℕ, ◌+◌, ◌-◌, ◌≤◌, Bool, true, false, not, ◌||◌, cond, List, [], ◌∷◌, length, Option, Some, None, refl, sym, ap, subst, ◌∙◌, inl, inr, arith}
use Rattle.std.specs.Prelude.{ℤ, ◌⊎◌, Contains, count_by, filter, option_map, unwrap_or, ◌==◌}
use Rattle.std.specs.List.{list_any}
use Rattle.std.specs.Ordering.{int_eq}
use Rattle.std.specs.FinSet as set
use Rattle.std.specs.Cmp.Derive.{both_true}
use Rattle.std.proofs.lemmas.List.Sums.{sum_by-take-le, length-filter}
use Rattle.std.proofs.lemmas.List.Folds.{list_any_at}
use Rattle.std.proofs.lemmas.Bool.{and_parts, ne_eqb, eq-eqb}
use Rattle.std.proofs.lemmas.Bool.Decides.{Decides-int_eq}
use Rattle.lls_lit.specs.Literal.{variable_of}
use Rattle.lls_lit.specs.Formula.{is_literal_of, is_within}
use Rattle.lls_prooflog.specs.Spent.{has_variables_once}
use Rattle.lls_store.specs.Trail.{Entry, TrailState, HasNegated, IsTrail, entry_of, level_of, place_of, is_decision}
use Rattle.lls_store.specs.Store.{IsFirstHighest, IsAsserting, IsLearnt}
use Rattle.lls_store.specs.Uip.{HasOneCurrent}
use Rattle.lls_store.proofs.Tabled.{variable_within}
use Rattle.lls_store.proofs.Sets.{Contains-from_IsIn, IsIn-from_Contains}
use Rattle.lls_analyse.specs.Learnt.{IsBack}
use Rattle.lls_analyse.specs.Learnt.IsBack.{alone, highest}
use Rattle.lls_analyse.specs.declared.visited.Seen.TheVariants.{Open, Kept}
use Rattle.lls_analyse.specs.Visited.{VisitedState, AreVisited, is_open, is_kept, is_held, status}
use Rattle.lls_analyse.specs.Marked.{AreMarked}
use Rattle.lls_analyse.specs.Gathered.{level_or_zero, place_or_zero, latest_of, is_other, kept_from, Gathers, back_of}
use Rattle.lls_analyse.proofs.Visits.{unlike, literal_within}
use Rattle.lls_analyse.proofs.Trails.{same_false, consistent_trail, decisions_rise, entry_at, level_at}
use Rattle.lls_analyse.proofs.Learning.{false_entry}
use Rattle.lls_analyse.proofs.Opens.{open_alone}
use Rattle.lls_analyse.proofs.Resolving.{held_cases}
use Rattle.lls_analyse.proofs.HintLists.{visited_few}
use Rattle.lls_analyse.proofs.Gathering.{kept_is, later, first_or_later, nothing_there, of_filter, in_filter, none_kept, one_latest, others_few}

-- no element's variable is that one
none_of : (xs : List ℤ) (v : ℕ) → ((m : ℤ) → Contains xs m → variable_of m ≢ v) → list_any (λ m. variable_of m == v) xs ≡ false
none_of [] v other = refl
none_of (x ∷ xs) v other = ap (λ b. b || list_any (λ m. variable_of m == v) xs) (ne_eqb (variable_of x) v (other x (0, omega arith, refl))) ∙ none_of xs v (λ m inside. other m (later x xs m inside))

once_cons : (x : ℤ) (xs : List ℤ) → ((m : ℤ) → Contains xs m → variable_of m ≢ variable_of x) → has_variables_once xs ≡ true → has_variables_once (x ∷ xs) ≡ true
once_cons x xs other once = both_true (ap not (none_of xs (variable_of x) other)) once

-- an element before others of another variable
once_apart : (x : ℤ) (xs : List ℤ) (m : ℤ) → has_variables_once (x ∷ xs) ≡ true → Contains xs m → variable_of m ≢ variable_of x
once_apart x xs m once inside same =
    let parts = and_parts (not (list_any (λ y. variable_of y == variable_of x) xs)) (has_variables_once xs) once in
    unlike (some xs m inside same) (opposite (list_any (λ y. variable_of y == variable_of x) xs) parts.0) where
      some : (ys : List ℤ) (m : ℤ) → Contains ys m → variable_of m ≡ variable_of x → list_any (λ y. variable_of y == variable_of x) ys ≡ true
      some ys m (k, lt, at) is = list_any_at (λ y. variable_of y == variable_of x) ys k m lt (ap (λ y. variable_of y == variable_of x) at ∙ eq-eqb (variable_of m) (variable_of x) is)

      opposite : (b : Bool) → not b ≡ true → b ≡ false
      opposite true is = absurd cc
      opposite false is = refl

once_filter : (p : ℤ → Bool) (xs : List ℤ) → has_variables_once xs ≡ true → has_variables_once (filter p xs) ≡ true
once_filter p [] once = refl
once_filter p (x ∷ xs) once = by_test (p x) (once_filter p xs (and_parts (not (list_any (λ y. variable_of y == variable_of x) xs)) (has_variables_once xs) once).1) where
  by_test : (b : Bool) → has_variables_once (filter p xs) ≡ true → has_variables_once (cond b (x ∷ filter p xs) (filter p xs)) ≡ true
  by_test true rest = once_cons x (filter p xs) (λ m inside. once_apart x xs m once (of_filter p xs m inside).0) rest
  by_test false rest = rest

within_all : (vars : ℕ) (xs : List ℤ) → ((m : ℤ) → Contains xs m → is_literal_of vars m ≡ true) → is_within vars xs ≡ true
within_all vars [] all = refl
within_all vars (x ∷ xs) all = both_true (all x (0, omega arith, refl)) (within_all vars xs (λ m inside. all m (later x xs m inside)))

-- the level of a false literal is at most the current one
pub level_most : (trail : TrailState) (l : ℤ) (n : ℕ) → IsTrail trail → level_of trail.entries (variable_of l) ≡ Some n → n ≤ trail.current
level_most trail l n kept is = by_entry (entry_of trail.entries (variable_of l)) refl is where
  by_entry : (o : Option Entry) → entry_of trail.entries (variable_of l) ≡ o → option_map (λ (e : Entry). e.level) o ≡ Some n → n ≤ trail.current
  by_entry None found at = absurd cc
  by_entry (Some e) found at =
      let (k, stands) = entry_at trail.entries (variable_of l) e found in
      let same : e.level ≡ n = cc in
      omega (arith, same, level_at trail k e kept stands.here, kept.current, sum_by-take-le (λ (x : Entry). cond (is_decision x) 1 0) trail.entries (k + 1))

pub level_known : (entries : List Entry) (l : ℤ) → HasNegated entries l → level_of entries (variable_of l) ≡ Some (level_or_zero entries l)
level_known entries l false_ =
    let (e, found) = false_entry entries l false_ in
    let at : level_of entries (variable_of l) ≡ Some e.level = ap (option_map (λ (x : Entry). x.level)) found in
    at ∙ ap Some (sym (ap (λ (o : Option ℕ). unwrap_or o 0) at))

level_told : (entries : List Entry) (l : ℤ) (n : ℕ) → level_of entries (variable_of l) ≡ Some n → level_or_zero entries l ≡ n
level_told entries l n is = ap (λ (o : Option ℕ). unwrap_or o 0) is

place_known : (entries : List Entry) (l : ℤ) (k : ℕ) → place_of entries (variable_of l) ≡ Some k → place_or_zero entries l ≡ k
place_known entries l k is = ap (λ (o : Option ℕ). unwrap_or o 0) is

-- what became false later isn't of a lower level
levels_rise : (trail : TrailState) (m h : ℤ) → IsTrail trail → HasNegated trail.entries m → HasNegated trail.entries h → place_or_zero trail.entries m ≤ place_or_zero trail.entries h → level_or_zero trail.entries m ≤ level_or_zero trail.entries h
levels_rise trail m h kept false_m false_h le =
    let es = trail.entries in
    let (e, found) = false_entry es m false_m in
    let (f, found') = false_entry es h false_h in
    let (j, at) = entry_at es (variable_of m) e found in
    let (k, at') = entry_at es (variable_of h) f found' in
    let level : level_or_zero es m ≡ e.level = level_told es m e.level (ap (option_map (λ (x : Entry). x.level)) found) in
    let level' : level_or_zero es h ≡ f.level = level_told es h f.level (ap (option_map (λ (x : Entry). x.level)) found') in
    let earlier : j ≤ k = omega (arith, le, place_known es m j at.place, place_known es h k at'.place) in
    omega (arith, level, level', level_at trail j e kept at.here, level_at trail k f kept at'.here, decisions_rise es (j + 1) (k + 1) (omega (arith, earlier)))

-- what holds of the gathered literals
module _ (trail : TrailState) (s : VisitedState) (clause : List ℤ) (kept : IsTrail trail) (visited : AreVisited s) (marked : AreMarked trail s) (one : count_by is_open s.seen ≡ 1) (g : Gathers trail.entries s clause) where
  first_kept : (m : ℤ) → status s.seen m ≡ Kept → m ≢ g.first
  first_kept m is same = open_kept (sym g.is_open ∙ ap (status s.seen) (sym same) ∙ is) where
    open_kept : Open ≡ Kept → ⊥
    open_kept e = cc

  second_is : (h : ℤ) → latest_of trail.entries s ≡ Some h → Contains s.lits h × (status s.seen h ≡ Kept)
  second_is h is =
      let top = one_latest trail.entries s.seen s.lits None h is in
      elim top.from [ inl t ↦ absurd (never t) | inr t ↦ (t.0, kept_is (status s.seen h) t.1) ] where
        never : {x : ℤ} → None ≡ Some x → ⊥
        never e = cc

  other_is : (h m : ℤ) → is_other s.seen h m ≡ true → (status s.seen m ≡ Kept) × (m ≢ h)
  other_is h m is =
      let parts = and_parts (is_kept (status s.seen m)) (not (int_eq m h)) is in
      (kept_is (status s.seen m) parts.0, λ same. differ (int_eq m h) ((Decides-int_eq m h).1 same) parts.1) where
        differ : (b : Bool) → b ≡ true → not b ≡ true → ⊥
        differ true e f = cc
        differ false e f = cc

  -- the literals behind the first
  of_kept : (o : Option ℤ) → latest_of trail.entries s ≡ o → (m : ℤ) → Contains (kept_from s o) m → Contains s.lits m × (status s.seen m ≡ Kept)
  of_kept None is m inside = absurd (nothing_there m inside)
  of_kept (Some h) is m inside = elim (first_or_later h (filter (is_other s.seen h) s.lits) m inside) [
    | inl t ↦ (let at = second_is h is in let P : ℤ → Type 0 = λ x. Contains s.lits x × (status s.seen x ≡ Kept) in subst P t at)
    | inr t ↦ (let at = of_filter (is_other s.seen h) s.lits m t in (at.0, (other_is h m at.1).0))
  ]

  in_kept : (o : Option ℤ) → latest_of trail.entries s ≡ o → (m : ℤ) → Contains s.lits m → status s.seen m ≡ Kept → Contains (kept_from s o) m
  in_kept None is m inside at = absurd (unlike (ap is_kept at) ((none_kept trail.entries s.seen s.lits None is).1 m inside))
  in_kept (Some h) is m inside at = by_test (int_eq m h) refl where
    by_test : (b : Bool) → int_eq m h ≡ b → Contains (h ∷ filter (is_other s.seen h) s.lits) m
    by_test true same = (0, omega arith, sym ((Decides-int_eq m h).0 same))
    by_test false other = later h (filter (is_other s.seen h) s.lits) m (in_filter (is_other s.seen h) s.lits m inside (both_true (ap is_kept at) (ap not other)))

  clause_is : {o : Option ℤ} → latest_of trail.entries s ≡ o → clause ≡ g.first ∷ kept_from s o
  clause_is is = g.gathered ∙ ap (λ o. g.first ∷ kept_from s o) is

  -- the first literal, or one that is kept
  pub member : (m : ℤ) → Contains clause m → (m ≡ g.first) ⊎ (Contains s.lits m × (status s.seen m ≡ Kept))
  member m inside =
      let P : List ℤ → Type 0 = λ ls. Contains ls m in
      elim (first_or_later g.first (kept_from s (latest_of trail.entries s)) m (subst P g.gathered inside)) [
        | inl t ↦ inl (sym t)
        | inr t ↦ inr (of_kept (latest_of trail.entries s) refl m t)
      ]

  pub visited_member : (m : ℤ) → Contains clause m → Contains s.lits m × (is_held (status s.seen m) ≡ true)
  visited_member m inside = elim (member m inside) [
    | inl t ↦ (let P : ℤ → Type 0 = λ x. Contains s.lits x × (is_held (status s.seen x) ≡ true) in subst P (sym t) (g.contains, ap is_held g.is_open))
    | inr t ↦ (t.0, ap is_held t.1)
  ]

  pub false_member : (m : ℤ) → Contains clause m → HasNegated trail.entries m
  false_member m inside = marked.all_false m (visited_member m inside).0

  pub held_member : (m : ℤ) → Contains s.lits m → is_held (status s.seen m) ≡ true → Contains clause m
  held_member m inside held =
      let P : List ℤ → Type 0 = λ ls. Contains ls m in
      subst P (sym g.gathered) (elim (held_cases (status s.seen m) held) [
        | inl is ↦ (0, omega arith, sym (same_open m inside is))
        | inr is ↦ later g.first (kept_from s (latest_of trail.entries s)) m (in_kept (latest_of trail.entries s) refl m inside is)
      ]) where
        same_open : (m : ℤ) → Contains s.lits m → status s.seen m ≡ Open → m ≡ g.first
        same_open m inside is =
            let a = literal_within s.vars s.lits m visited.within inside in
            let b = literal_within s.vars s.lits g.first visited.within g.contains in
            let place = open_alone s.seen (variable_of m - 1) (variable_of g.first - 1) one (omega (arith, a.0, a.1, visited.each)) (omega (arith, b.0, b.1, visited.each)) is g.is_open in
            same_false trail.entries m g.first (consistent_trail trail kept) (marked.all_false m inside) (marked.all_false g.first g.contains) (omega (arith, place, a.0, b.0))

  apart : (a b : ℤ) → Contains s.lits a → Contains s.lits b → a ≢ b → variable_of a ≢ variable_of b
  apart a b inside inside' other same = other (same_false trail.entries a b (consistent_trail trail kept) (marked.all_false a inside) (marked.all_false b inside') same)

  once_kept : (o : Option ℤ) → latest_of trail.entries s ≡ o → has_variables_once (kept_from s o) ≡ true
  once_kept None is = refl
  once_kept (Some h) is =
      once_cons h (filter (is_other s.seen h) s.lits)
      (λ m inside. let at = of_filter (is_other s.seen h) s.lits m inside in apart m h at.0 (second_is h is).0 (other_is h m at.1).1)
      (once_filter (is_other s.seen h) s.lits visited.once)

  pub once_clause : has_variables_once clause ≡ true
  once_clause =
      ap has_variables_once g.gathered
      ∙ once_cons g.first (kept_from s (latest_of trail.entries s))
      (λ m inside. let at = of_kept (latest_of trail.entries s) refl m inside in apart m g.first at.0 g.contains (first_kept m at.1))
      (once_kept (latest_of trail.entries s) refl)

  pub within_clause : is_within trail.vars clause ≡ true
  within_clause = within_all trail.vars clause (λ m inside. let at = literal_within s.vars s.lits m visited.within (visited_member m inside).0 in
      variable_within trail.vars (variable_of m) at.0 (omega (arith, at.1, marked.same_vars)))

  pub few_clause : length clause ≤ trail.vars
  few_clause = omega (arith, ap (λ (ls : List ℤ). length ls) g.gathered, by_highest (latest_of trail.entries s) refl, visited_few s visited, marked.same_vars) where
    some_there : length s.lits ≡ 0 → ⊥
    some_there none = (let (k, lt, at) = g.contains in omega (arith, lt, none))

    by_highest : (o : Option ℤ) → latest_of trail.entries s ≡ o → length (g.first ∷ kept_from s o) ≤ length s.lits
    by_highest None is = (let (k, lt, at) = g.contains in omega (arith, lt))
    by_highest (Some h) is = omega (arith, others_few trail.entries s g.first h g.contains (ap is_open g.is_open) is, length-filter (is_other s.seen h) s.lits)

  first_current : level_of trail.entries (variable_of g.first) ≡ Some trail.current
  first_current = marked.current g.first g.contains g.is_open

  highest_second : (o : Option ℤ) → latest_of trail.entries s ≡ o → IsFirstHighest trail.entries (kept_from s o)
  highest_second None is = tt
  highest_second (Some h) is = λ m level other inside at at'.
      let there = of_filter (is_other s.seen h) s.lits m inside in
      let top = one_latest trail.entries s.seen s.lits None h is in
      let rise = levels_rise trail m h kept (marked.all_false m there.0) (marked.all_false h (second_is h is).0) (top.above m there.0 (ap is_kept (other_is h m there.1).0)) in
      omega (arith, rise, level_told trail.entries h level at, level_told trail.entries m other at')

  asserting : IsAsserting trail g.first (kept_from s (latest_of trail.entries s))
  asserting = record {
    all_false = λ m inside. (let P : List ℤ → Type 0 = λ ls. Contains ls m in false_member m (subst P (sym g.gathered) inside));
    first_current = first_current;
    alone = λ m inside. (let at = of_kept (latest_of trail.entries s) refl m inside in marked.lower m at.0 at.1);
    second_highest = highest_second (latest_of trail.entries s) refl;
  }

  pub learnt_clause : IsLearnt trail clause
  learnt_clause = (let P : List ℤ → Type 0 = λ ls. IsLearnt trail ls in subst P (sym g.gathered) asserting)

  pub one_current : HasOneCurrent trail (set.from_list clause)
  one_current = record {
    one = g.first;
    is_current = record { is_in = IsIn-from_Contains clause g.first (held_member g.first g.contains (ap is_held g.is_open)); of_level = first_current };
    alone = λ m current. elim (member m (Contains-from_IsIn clause m current.is_in)) [
      | inl t ↦ t
      | inr t ↦ absurd (marked.lower m t.0 t.1 current.of_level)
    ];
  }

  pub is_back : IsBack trail clause (back_of trail.entries clause)
  is_back = by_highest (latest_of trail.entries s) refl where
    by_highest : (o : Option ℤ) → latest_of trail.entries s ≡ o → IsBack trail clause (back_of trail.entries clause)
    by_highest None is =
        let clause' : clause ≡ g.first ∷ [] = clause_is is in
        let P : ℕ → Type 0 = λ n. IsBack trail clause n in
        subst P (sym (ap (back_of trail.entries) clause')) (alone (ap (λ (ls : List ℤ). length ls) clause'))
    by_highest (Some h) is =
        let clause' : clause ≡ g.first ∷ (h ∷ filter (is_other s.seen h) s.lits) = clause_is is in
        let at = second_is h is in
        let level = level_known trail.entries h (marked.all_false h at.0) in
        let most = level_most trail h (level_or_zero trail.entries h) kept level in
        let top = one_latest trail.entries s.seen s.lits None h is in
        let other : level_or_zero trail.entries h ≢ trail.current = λ same. marked.lower h at.0 at.1 (level ∙ ap Some same) in
        let P : ℕ → Type 0 = λ n. IsBack trail clause n in
        subst P (sym (ap (back_of trail.entries) clause')) (highest h (level_or_zero trail.entries h) (held_member h at.0 (ap is_held at.1)) level (omega (arith, most, other))
        (λ m n inside is' apart'. elim (member m inside) [
          | inl t ↦ absurd (apart' (some_same (sym is' ∙ ap (λ x. level_of trail.entries (variable_of x)) t ∙ first_current)))
          | inr t ↦ omega (arith, levels_rise trail m h kept (marked.all_false m t.0) (marked.all_false h at.0) (top.above m t.0 (ap is_kept t.1)), level_told trail.entries m n is')
        ])) where
          some_same : {X : Type 0} → {x y : X} → Some x ≡ Some y → x ≡ y
          some_same e = cc
