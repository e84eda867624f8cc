-- What stands below a level, as a trail goes on and is cut: there propagation had nothing to do.
use Rattle.std.proofs.Common.{◌≡◌, ◌≢◌, inl, inr, ℕ, zero, suc, ◌+◌, ◌<◌, ◌≤◌, Bool, true, false, cond, List, [], ◌∷◌, ◌++◌, Some, None, refl, sym, ap, subst, ◌∙◌, arith}
use Rattle.std.specs.Prelude.{ℤ, ◌⊎◌, All, Contains, nat_le, nat_lt, option_map}
use Rattle.std.specs.FinSet as set
use Rattle.std.proofs.lemmas.Bool.{cases_lt, ltb-true}
use Rattle.std.proofs.lemmas.Bool.Decides.{nat_tests}
use Rattle.std.proofs.lemmas.List.Sums.{take_while-cons}
use Rattle.std.proofs.lemmas.List.Elements.{Contains-push_cases}
use Rattle.lls_lit.specs.Literal.{variable_of, negation}
use Rattle.lls_store.specs.Trail.{Entry, TrailState, IsTrail, HasNegated, has, level_of, entry_of, has_variables_once}
use Rattle.lls_store.specs.Changes.{cut_to, decided, entries_up_to}
use Rattle.lls_store.specs.Clauses.{LiveClause, Literals}
use Rattle.lls_store.specs.Closed.{IsSettled, two_left, AreSettled, IsClosed, IsClosedBelow, entries_below}
use Rattle.lls_store.specs.Store.{GoesOn, StoreState, sealed}
use Rattle.lls_store.proofs.Cut.{cut_all}
use Rattle.lls_store.proofs.Sets.{IsIn-from_Contains}
use Rattle.lls_store.proofs.Values.{variable_of-negation}
use Rattle.lls_analyse.specs.Learnt.{AreLearnt, IsBack, alone, highest}
use Rattle.lls_analyse.proofs.FreshLearnt.{early}
use Rattle.lls_solver.specs.Course.{AreClosedBelow}
use Rattle.lls_solver.proofs.Levels.{entry_of-stands}

not_below : (n level : ℕ) → level ≤ n → nat_lt n level ≡ false
not_below n level le = grind (arith, nat_tests)

-- entries from the level on make no difference at the end
below-append : (level : ℕ) (es more : List Entry) → All (λ (e : Entry). level ≤ e.level) more → entries_below level (es ++ more) ≡ entries_below level es
below-append level [] [] high = refl
below-append level [] (e ∷ more) high =
    take_while-cons (λ x. nat_lt x.level level) e more ∙ ap (λ b. cond b (e ∷ entries_below level more) []) (not_below e.level level (high 0 e (omega arith)))
below-append level (x ∷ es) more high =
    take_while-cons (λ y. nat_lt y.level level) x (es ++ more) ∙ ap (λ ys. cond (nat_lt x.level level) (x ∷ ys) []) (below-append level es more high) ∙ sym (take_while-cons (λ y. nat_lt y.level level) x es)

-- nor does what stands above it
below-up_to : (level top : ℕ) (es : List Entry) → level ≤ top + 1 → entries_below level (entries_up_to top es) ≡ entries_below level es
below-up_to level top [] le = refl
below-up_to level top (x ∷ es) le = by_test (nat_le x.level top) refl (below-up_to level top es le) where
  cut : entries_up_to top (x ∷ es) ≡ cond (nat_le x.level top) (x ∷ entries_up_to top es) []
  cut = take_while-cons (λ y. nat_le y.level top) x es

  kept : entries_below level (x ∷ es) ≡ cond (nat_lt x.level level) (x ∷ entries_below level es) []
  kept = take_while-cons (λ y. nat_lt y.level level) x es

  by_test : (b : Bool) → nat_le x.level top ≡ b → entries_below level (entries_up_to top es) ≡ entries_below level es → entries_below level (entries_up_to top (x ∷ es)) ≡ entries_below level (x ∷ es)
  by_test true low rest =
      ap (entries_below level) (cut ∙ ap (λ b. cond b (x ∷ entries_up_to top es) []) low)
      ∙ take_while-cons (λ y. nat_lt y.level level) x (entries_up_to top es) ∙ ap (λ ys. cond (nat_lt x.level level) (x ∷ ys) []) rest ∙ sym kept
  by_test false above rest =
      let high : nat_lt x.level level ≡ false = not_below x.level level (above_top above) in
      ap (entries_below level) (cut ∙ ap (λ b. cond b (x ∷ entries_up_to top es) []) above) ∙ sym (kept ∙ ap (λ b. cond b (x ∷ entries_below level es) []) high) where
        above_top : nat_le x.level top ≡ false → level ≤ x.level
        above_top is = grind (arith, nat_tests)

-- below the next level stands what stands up to this one
below-next : (level : ℕ) (es : List Entry) → entries_below (level + 1) es ≡ entries_up_to level es
below-next level [] = refl
below-next level (x ∷ es) =
    take_while-cons (λ y. nat_lt y.level (level + 1)) x es ∙ ap (λ b. cond b (x ∷ entries_below (level + 1) es) []) (same_test x.level)
    ∙ ap (λ ys. cond (nat_le x.level level) (x ∷ ys) []) (below-next level es) ∙ sym (take_while-cons (λ y. nat_le y.level level) x es) where
      same_test : (n : ℕ) → nat_lt n (level + 1) ≡ nat_le n level
      same_test n = grind (arith, nat_tests)

-- above level 0 the trail was closed before the current level began
pub closed_at_current : (live : List LiveClause) (t : TrailState) → 0 < t.current → AreClosedBelow live t → IsClosedBelow live t
closed_at_current live t above closed = closed t.current (omega (arith, above)) (omega arith)

pub closed_below_on : (live : List LiveClause) (old new : TrailState) → GoesOn old new → AreClosedBelow live old → AreClosedBelow live new
closed_below_on live old new on closed level least most =
    let current : new.current ≡ old.current = ap (λ (t : TrailState). t.current) on.grown in
    let high : All (λ (e : Entry). level ≤ e.level) on.added = λ k d lt. omega (arith, on.of_level k d lt, most, current) in
    let same : entries_below level new.entries ≡ entries_below level old.entries = ap (λ (t : TrailState). entries_below level t.entries) on.grown ∙ below-append level old.entries on.added high in
    subst (AreSettled live) (sym same) (closed level least (omega (arith, most, current)))

-- a decision may follow where the whole trail is closed
pub closed_below_decided : (live : List LiveClause) (t : TrailState) (l : ℤ) → IsTrail t → IsClosed live t → AreClosedBelow live t → AreClosedBelow live (decided t l)
closed_below_decided live t l h whole closed level least most =
    subst (AreSettled live) (sym (below-append level t.entries (decision ∷ []) high)) (by_level (cases_lt t.current level)) where
      decision : Entry
      decision = record { lit = l; level = t.current + 1; reason = None }

      high : All (λ (e : Entry). level ≤ e.level) (decision ∷ [])
      high zero d lt = most
      high (suc k) d lt = absurd (omega (arith, lt))

      all : level ≡ t.current + 1 → entries_below level t.entries ≡ t.entries
      all next = ap (λ n. entries_below n t.entries) next ∙ below-next t.current t.entries ∙ cut_all t t.current h (omega arith)

      by_level : (t.current < level) ⊎ (level ≤ t.current) → AreSettled live (entries_below level t.entries)
      by_level (inl new) = subst (AreSettled live) (sym (all (omega (arith, new, most)))) whole
      by_level (inr old) = closed level least old

pub closed_below_cut : (live : List LiveClause) (t : TrailState) (top : ℕ) → top ≤ t.current → AreClosedBelow live t → AreClosedBelow live (cut_to t top)
closed_below_cut live t top le closed level least most =
    subst (AreSettled live) (sym (below-up_to level top t.entries (omega (arith, most)))) (closed level least (omega (arith, most, le)))

-- a literal that stands below a level is of a lower one
below_lower : (level n : ℕ) (es : List Entry) (l : ℤ) → has_variables_once es ≡ true → has (entries_below level es) l ≡ true → level_of es (variable_of l) ≡ Some n → n < level
below_lower level n es l once stands of_level =
    let at = early (λ (e : Entry). nat_lt e.level level) es l stands in
    let found : entry_of es (variable_of l) ≡ Some at.entry = ap (λ m. entry_of es (variable_of m)) (sym at.same) ∙ entry_of-stands es at.place at.entry at.here once in
    let same : n ≡ at.entry.level = told (sym of_level ∙ ap (option_map (λ (e : Entry). e.level)) found) in
    omega (arith, same, ltb-true at.entry.level level at.passes) where
      told : {a b : ℕ} → Some a ≡ Some b → a ≡ b
      told e = cc

not_false_below : (level n : ℕ) (es : List Entry) (l : ℤ) → has_variables_once es ≡ true → level_of es (variable_of l) ≡ Some n → level ≤ n → ¬ HasNegated (entries_below level es) l
not_false_below level n es l once of_level high negated =
    let lower = below_lower level n es (negation l) once negated (ap (level_of es) (variable_of-negation l) ∙ of_level) in
    absurd (omega (arith, lower, high))

-- up to the second highest level of a learnt clause two of its literals aren't false below
learnt_settled : (live : List LiveClause) (t : TrailState) (conflict : Literals) (lits : List ℤ) (back level : ℕ) → IsTrail t → AreLearnt live t conflict lits back → 1 ≤ level → level ≤ back → IsSettled (entries_below level t.entries) (set.from_list lits)
learnt_settled live t conflict lits back level h learnt least most = by_back back learnt.is_back most where
  one : ℤ
  one = learnt.one_current.one

  by_back : (b : ℕ) → IsBack t lits b → level ≤ b → IsSettled (entries_below level t.entries) (set.from_list lits)
  by_back _ (alone is) le = absurd (omega (arith, least, le))
  by_back _ (highest l b contained of_level below bound) le =
      two_left one l learnt.one_current.is_current.is_in (IsIn-from_Contains lits l contained)
      apart
      (not_false_below level t.current t.entries one h.once learnt.one_current.is_current.of_level (omega (arith, le, below)))
      (not_false_below level b t.entries l h.once of_level le) where
        apart : one ≢ l
        apart same =
            let levels : t.current ≡ b = told (sym learnt.one_current.is_current.of_level ∙ ap (λ m. level_of t.entries (variable_of m)) same ∙ of_level) in
            absurd (omega (arith, levels, below)) where
              told : {x y : ℕ} → Some x ≡ Some y → x ≡ y
              told e = cc

-- so a learnt clause changes nothing where the trail is cut to that level
pub closed_below_learnt : (store : StoreState) (t : TrailState) (conflict : Literals) (id : ℕ) (lits : List ℤ) (back : ℕ) → IsTrail t → AreLearnt store.live t conflict lits back → back ≤ t.current → AreClosedBelow store.live t
    → AreClosedBelow (sealed (record store { tail = lits }) id).live (cut_to t back)
closed_below_learnt store t conflict id lits back h learnt low closed level least most clause contained =
    let same = below-up_to level back t.entries (omega (arith, most)) in
    subst (λ es. IsSettled es clause.lits) (sym same) (by_clause (Contains-push_cases store.live new clause contained)) where
      new : LiveClause
      new = record { number = store.count; id = id; lits = set.from_list lits }

      by_clause : Contains store.live clause ⊎ (new ≡ clause) → IsSettled (entries_below level t.entries) clause.lits
      by_clause (inl old) = closed level least (omega (arith, most, low)) clause old
      by_clause (inr is) = subst (λ (c : LiveClause). IsSettled (entries_below level t.entries) c.lits) is (learnt_settled store.live t conflict lits back level h learnt least most)
