-- Groups of hints, as a loop goes through them.
use Rattle.std.proofs.Common.{◌≡◌, ℕ, zero, suc, ◌+◌, ◌<◌, ◌≤◌, Bool, true, false, not, ◌&&◌, ◌||◌, cond, List, [], ◌∷◌, ◌++◌, length, get_or, drop, Option, Some, None, refl, sym, ap, ◌∙◌, append_assoc, arith}
use Rattle.std.specs.Prelude.{ℤ, pos, negsuc, filter, find, slice_get, ◌==◌, Err}
use Rattle.std.specs.List.{list_any}
use Rattle.std.specs.Option.{option_map, option_or}
use Rattle.std.specs.List.Sorted.{IsPermutation}
use Rattle.std.proofs.lemmas.List.{drop_more, drop_all, append-nil}
use Rattle.std.proofs.lemmas.List.Sorted.{list_any-IsPermutation}
use Rattle.lls_lit.specs.Literal.{variable_of, negation}
use Rattle.lls_lit.specs.Formula.{Clause}
use Rattle.lls_prooflog.specs.declared.step_fault.StepFault.{StepFault}
use Rattle.lls_prooflog.specs.declared.step_fault.StepFault.TheVariants.{NoClause, NoConflict, RatMissing, RatOther}
use Rattle.lls_prooflog.specs.UnitWalk.{Live, find_clause, is_among, unit_walk}
use Rattle.lls_prooflog.specs.Rat.{Group, groups_of, others, has_true, resolvent_fault, other_fault, group_fault, groups_fault, lacks_group, missing_fault, pivot_fault, rat_fault}
use Rattle.lls_lrat.specs.declared.refusal.Refusal.{Refusal}
use Rattle.lls_lrat.specs.declared.refusal.Refusal.TheVariants.{Fault, Memory}
use Rattle.lls_lrat.specs.Walked.{Walk, Stops, walk_from, EndsAs}
use Rattle.lls_lrat.specs.Grouped.{is_negative, begins_group, ids_of_groups, is_lacking, IsNextGroup, IsTold}
use Rattle.lls_lrat.proofs.Walked.{said, walk_on-walk_from}

-- a negative hint and those behind it are a group
pub groups_of-negative : (hint : ℤ) (rest : List ℤ) → is_negative hint ≡ true → groups_of (hint ∷ rest) ≡ record { id = variable_of hint; hints = rest } ∷ groups_of rest
groups_of-negative (pos n) rest e = absurd cc
groups_of-negative (negsuc n) rest e = refl

negative_first : (hint : ℤ) (rest : List ℤ) → begins_group (hint ∷ rest) ≡ true → is_negative hint ≡ true
negative_first (pos n) rest e = e
negative_first (negsuc n) rest e = refl

-- the empty clause has no pivot, so the first group is at fault
pub first_without_pivot : (hints : List ℤ) (place : ℕ) (hint : ℤ) → place < length hints → hint ≡ get_or hints place (pos 0) → begins_group (drop place hints) ≡ true → rat_fault [] [] (groups_of (drop place hints)) [] ≡ Some (RatOther (variable_of hint))
first_without_pivot hints place hint lt is begins =
    let rest_is : drop place hints ≡ hint ∷ drop (place + 1) hints = drop_more hints place (pos 0) lt ∙ ap (λ (h : ℤ). h ∷ drop (place + 1) hints) (sym is) in
    let negative = negative_first hint (drop (place + 1) hints) (ap begins_group (sym rest_is) ∙ begins) in
    ap (λ gs. rat_fault [] [] gs []) (ap groups_of rest_is ∙ groups_of-negative hint (drop (place + 1) hints) negative)

-- a literal that is kept passes a test
pub any_kept_at : (keep test : ℤ → Bool) (lits : List ℤ) (i : ℕ) (d : ℤ) → i < length lits → keep (get_or lits i d) ≡ true → test (get_or lits i d) ≡ true → list_any test (filter keep lits) ≡ true
any_kept_at keep test [] i d lt k t = absurd (omega arith)
any_kept_at keep test (l ∷ ls) zero d lt k t = rw (k, t) refl
any_kept_at keep test (l ∷ ls) (suc i) d lt k t =
    let rest = any_kept_at keep test ls i d (omega (arith, lt)) k t in
    elim (keep l) as (λ b. list_any test (cond b (l ∷ filter keep ls) (filter keep ls)) ≡ true) [
      | true ↦ or_true (test l) (list_any test (filter keep ls)) rest
      | false ↦ rest
    ]
  where
    or_true : (a b : Bool) → b ≡ true → (a || b) ≡ true
    or_true true b e = refl
    or_true false b e = e

-- the groups between a place and another have no fault, and these are their ids
pub record Grouped (live : Live) (pivot : ℤ) (assumed hints : List ℤ) (from : ℕ) (ids : List ℕ) (place : ℕ) : Type 0 where
  pub faults : groups_fault live pivot assumed (groups_of (drop from hints)) ≡ groups_fault live pivot assumed (groups_of (drop place hints))
  pub ids_are : ids_of_groups (groups_of (drop from hints)) ≡ ids ++ ids_of_groups (groups_of (drop place hints))
  pub begins : begins_group (drop place hints) ≡ true
  pub within : place ≤ length hints

pub groups_none : (live : Live) (pivot : ℤ) (assumed hints : List ℤ) (from : ℕ) → begins_group (drop from hints) ≡ true → from ≤ length hints → Grouped live pivot assumed hints from [] from
groups_none live pivot assumed hints from begins within = record { faults = refl; ids_are = refl; begins = begins; within = within }

module _ (live : Live) (pivot : ℤ) (assumed hints : List ℤ) (from : ℕ) (ids : List ℕ) (place : ℕ) (g : Grouped live pivot assumed hints from ids place) where
  pub no_fault : length hints ≤ place → groups_fault live pivot assumed (groups_of (drop from hints)) ≡ None
  no_fault le = g.faults ∙ ap (λ hs. groups_fault live pivot assumed (groups_of hs)) (drop_all place hints le)

  pub all_ids : length hints ≤ place → ids ≡ ids_of_groups (groups_of (drop from hints))
  all_ids le = sym (g.ids_are ∙ ap (λ hs. ids ++ ids_of_groups (groups_of hs)) (drop_all place hints le) ∙ append-nil ids)

  module _ (hint : ℤ) (lt : place < length hints) (is : hint ≡ get_or hints place (pos 0)) where
    rest_is : drop place hints ≡ hint ∷ drop (place + 1) hints
    rest_is = drop_more hints place (pos 0) lt ∙ ap (λ (h : ℤ). h ∷ drop (place + 1) hints) (sym is)

    pub hint_negative : is_negative hint ≡ true
    hint_negative = negative_first hint (drop (place + 1) hints) (ap begins_group (sym rest_is) ∙ g.begins)

    abbrev group : Group
    group = record { id = variable_of hint; hints = drop (place + 1) hints }

    groups_are : groups_of (drop place hints) ≡ group ∷ groups_of (drop (place + 1) hints)
    groups_are = ap groups_of rest_is ∙ groups_of-negative hint (drop (place + 1) hints) hint_negative

    fault_at : groups_fault live pivot assumed (groups_of (drop from hints)) ≡ option_or (group_fault live pivot assumed group) (groups_fault live pivot assumed (groups_of (drop (place + 1) hints)))
    fault_at = g.faults ∙ ap (groups_fault live pivot assumed) groups_are

    pub group_at_fault : (fault : StepFault) → group_fault live pivot assumed group ≡ Some fault → groups_fault live pivot assumed (groups_of (drop from hints)) ≡ Some fault
    group_at_fault fault e = fault_at ∙ ap (λ o. option_or o (groups_fault live pivot assumed (groups_of (drop (place + 1) hints)))) e

    pub groups_on : (next : ℕ) → group_fault live pivot assumed group ≡ None → IsNextGroup hints (place + 1) next → Grouped live pivot assumed hints from (ids ++ variable_of hint ∷ []) next
    groups_on next e n = record {
      faults = fault_at ∙ ap (λ o. option_or o (groups_fault live pivot assumed (groups_of (drop (place + 1) hints)))) e ∙ ap (groups_fault live pivot assumed) (sym n.groups);
      ids_are =
          g.ids_are ∙ ap (λ gs. ids ++ ids_of_groups gs) (groups_are ∙ ap (λ (gs : List Group). group ∷ gs) (sym n.groups))
          ∙ sym (append_assoc ids (variable_of hint ∷ []) (ids_of_groups (groups_of (drop next hints))));
      begins = n.begins;
      within = n.within;
    }

-- where a walk has to lead to a conflict
pub resolvent_open : (live : Live) (assumed rest : List ℤ) (hints : List ℤ) (fault : Option StepFault) → has_true assumed rest ≡ false → unit_walk live (assumed ++ rest) hints ≡ fault → resolvent_fault live assumed rest hints ≡ fault
resolvent_open live assumed rest hints fault none walk = rw none walk

pub resolvent_true : (live : Live) (assumed rest : List ℤ) (hints : List ℤ) → has_true assumed rest ≡ true → resolvent_fault live assumed rest hints ≡ None
resolvent_true live assumed rest hints some = rw some refl

pub group_of_none : (live : Live) (pivot : ℤ) (assumed : List ℤ) (hint : ℤ) (hints : List ℤ) → is_negative hint ≡ true → find_clause live (variable_of hint) ≡ None → group_fault live pivot assumed (record { id = variable_of hint; hints = hints }) ≡ Some (NoClause hint)
group_of_none live pivot assumed (pos n) hints e none = absurd cc
group_of_none live pivot assumed (negsuc n) hints e none =
    ap (other_fault live pivot assumed (record { id = n + 1; hints = hints })) none ∙ ap (λ (h : ℤ). Some (NoClause h)) (let s : n + 1 ≡ suc n = omega arith in ap (λ m. negation (pos m)) s)

module _ (live : Live) (pivot : ℤ) (assumed : List ℤ) (id : ℕ) (hints : List ℤ) (clause : Clause) (found : find_clause live id ≡ Some clause) where
  pub group_of_other : is_among clause (negation pivot) ≡ false → group_fault live pivot assumed (record { id = id; hints = hints }) ≡ Some (RatOther id)
  group_of_other e = ap (other_fault live pivot assumed (record { id = id; hints = hints })) found ∙ ap (λ b. cond b (resolvent_fault live assumed (others (negation pivot) clause) hints) (Some (RatOther id))) e

  pub group_of_clause : is_among clause (negation pivot) ≡ true → group_fault live pivot assumed (record { id = id; hints = hints }) ≡ resolvent_fault live assumed (others (negation pivot) clause) hints
  group_of_clause e = ap (other_fault live pivot assumed (record { id = id; hints = hints })) found ∙ ap (λ b. cond b (resolvent_fault live assumed (others (negation pivot) clause) hints) (Some (RatOther id))) e

  pub group_closes : (place : ℕ) → is_among clause (negation pivot) ≡ true → has_true assumed (others (negation pivot) clause) ≡ false → (walk : Walk) → walk_from live (assumed ++ others (negation pivot) clause) place hints ≡ walk → group_fault live pivot assumed (record { id = id; hints = hints }) ≡ said (λ _. Some NoConflict) walk
  group_closes place holds none walk e =
      group_of_clause holds
      ∙ resolvent_open live assumed (others (negation pivot) clause) hints _ none (walk_on-walk_from live (λ _. Some NoConflict) (assumed ++ others (negation pivot) clause) place hints ∙ ap (said (λ _. Some NoConflict)) e)

-- a walk that ended with a refusal tells its fault
pub walk_refused : (error : Refusal) (lits : List ℤ) (walk : Walk) (fault : Option StepFault) (at_end : List ℤ → Option StepFault) → EndsAs (Err error) lits walk → ((w : Walk) → walk ≡ w → fault ≡ said at_end w) → IsTold (Some error) fault
walk_refused (Fault f) lits walk fault at_end ends is = is (Stops f) ends
walk_refused Memory lits walk fault at_end ends is = tt

-- so does a group
pub group_refused : (error : Refusal) (live : Live) (pivot : ℤ) (assumed hints : List ℤ) (from : ℕ) (ids : List ℕ) (place : ℕ) (g : Grouped live pivot assumed hints from ids place) (hint : ℤ) → place < length hints → hint ≡ get_or hints place (pos 0)
    → IsTold (Some error) (group_fault live pivot assumed (record { id = variable_of hint; hints = drop (place + 1) hints })) → IsTold (Some error) (groups_fault live pivot assumed (groups_of (drop from hints)))
group_refused (Fault f) live pivot assumed hints from ids place g hint lt is tells = group_at_fault live pivot assumed hints from ids place g hint lt is f tells
group_refused Memory live pivot assumed hints from ids place g hint lt is tells = tt

-- what a clause without a group makes of groups that have no fault, by its id and the ids of the groups
abbrev pub by_lacking : Option ℕ → List ℕ → Option StepFault
by_lacking None ids = None
by_lacking (Some id) [] = Some NoConflict
by_lacking (Some id) (other ∷ ids) = Some (RatMissing id)

abbrev pub first_lacking : Live → ℤ → List ℕ → Option ℕ
first_lacking live l ids = option_map (λ pair. pair.0) (find (is_lacking l ids) live)

none_holding : (live : Live) (l : ℤ) → cond (list_any (λ pair. is_among pair.1 l) live) (Some NoConflict) None ≡ by_lacking (first_lacking live l []) []
none_holding [] l = refl
none_holding (pair ∷ rest) l =
    elim (is_among pair.1 l) as (λ b. cond (b || list_any (λ p. is_among p.1 l) rest) (Some NoConflict) None ≡ by_lacking (option_map (λ (p : ℕ × Clause). p.0) (cond (b && true) (Some pair) (find (is_lacking l []) rest))) []) [
      | true ↦ refl
      | false ↦ none_holding rest l
    ]

any_id : (groups : List Group) (id : ℕ) → list_any (λ group. group.id == id) groups ≡ list_any (λ other. other == id) (ids_of_groups groups)
any_id [] id = refl
any_id (group ∷ groups) id = ap (λ b. (group.id == id) || b) (any_id groups id)

find_agree : {X : Type 0} → (test other : X → Bool) → ((x : X) → test x ≡ other x) → (xs : List X) → find test xs ≡ find other xs
find_agree test other each [] = refl
find_agree test other each (x ∷ xs) = ap (λ b. cond b (Some x) (find test xs)) (each x) ∙ ap (λ o. cond (other x) (Some x) o) (find_agree test other each xs)

missing_first : (live : Live) (l : ℤ) (group : Group) (groups : List Group) → missing_fault live l (group ∷ groups) ≡ by_lacking (first_lacking live l (ids_of_groups (group ∷ groups))) (ids_of_groups (group ∷ groups))
missing_first live l group groups =
    ap (option_map (λ (pair : ℕ × Clause). RatMissing pair.0)) (find_agree (lacks_group l (group ∷ groups)) (is_lacking l (ids_of_groups (group ∷ groups))) (λ pair. ap (λ b. is_among pair.1 l && not b) (any_id (group ∷ groups) pair.0)) live)
    ∙ by_found (find (is_lacking l (ids_of_groups (group ∷ groups))) live)
  where
    by_found : (o : Option (ℕ × Clause)) → option_map (λ pair. RatMissing pair.0) o ≡ by_lacking (option_map (λ pair. pair.0) o) (ids_of_groups (group ∷ groups))
    by_found None = refl
    by_found (Some pair) = refl

-- the fault of a clause by its pivot, where no group has one
pub pivot_told : (live : Live) (pivot : ℤ) (assumed : List ℤ) (groups : List Group) (ids : List ℕ) (first : Option ℕ) → groups_fault live pivot assumed groups ≡ None → ids ≡ ids_of_groups groups → first ≡ first_lacking live (negation pivot) ids → pivot_fault live pivot assumed groups ≡ by_lacking first ids
pivot_told live pivot assumed [] ids first good is lacking = none_holding live (negation pivot) ∙ sym (ap (λ o. by_lacking o ids) lacking ∙ ap (λ ns. by_lacking (first_lacking live (negation pivot) ns) ns) is)
pivot_told live pivot assumed (group ∷ groups) ids first good is lacking =
    ap (λ o. option_or o (missing_fault live (negation pivot) (group ∷ groups))) good ∙ missing_first live (negation pivot) group groups
    ∙ sym (ap (λ o. by_lacking o ids) lacking ∙ ap (λ ns. by_lacking (first_lacking live (negation pivot) ns) ns) is)

-- groups with a fault
pub pivot_refused : (live : Live) (pivot : ℤ) (assumed : List ℤ) (groups : List Group) (fault : StepFault) → groups_fault live pivot assumed groups ≡ Some fault → pivot_fault live pivot assumed groups ≡ Some fault
pivot_refused live pivot assumed [] fault e = absurd cc
pivot_refused live pivot assumed (group ∷ groups) fault e = ap (λ o. option_or o (missing_fault live (negation pivot) (group ∷ groups))) e

pub by_lacking-empty : (id : ℕ) (ids : List ℕ) → length ids ≡ 0 → by_lacking (Some id) ids ≡ Some NoConflict
by_lacking-empty id [] e = refl
by_lacking-empty id (other ∷ ids) e = absurd (omega (arith, e))

pub by_lacking-some : (id : ℕ) (ids : List ℕ) → ¬ (length ids ≡ 0) → by_lacking (Some id) ids ≡ Some (RatMissing id)
by_lacking-some id [] e = absurd (e refl)
by_lacking-some id (other ∷ ids) e = refl

pub with_pivot : (live : Live) (lits : List ℤ) (pivot : ℤ) (groups : List Group) (assumed : List ℤ) → slice_get lits 0 ≡ Some pivot → rat_fault live lits groups assumed ≡ pivot_fault live pivot assumed groups
with_pivot live [] pivot groups assumed e = absurd cc
with_pivot live (l ∷ ls) pivot groups assumed e = let same : l ≡ pivot = cc in ap (λ p. pivot_fault live p assumed groups) same

-- the order of the ids doesn't matter
pub first_lacking-permuted : (live : Live) (l : ℤ) (ids other : List ℕ) → IsPermutation ids other → first_lacking live l ids ≡ first_lacking live l other
first_lacking-permuted live l ids other p =
    ap (option_map (λ (pair : ℕ × Clause). pair.0)) (find_agree (is_lacking l ids) (is_lacking l other) (λ pair. ap (λ b. is_among pair.1 l && not b) (list_any-IsPermutation (λ id. id == pair.0) ids other p)) live)
