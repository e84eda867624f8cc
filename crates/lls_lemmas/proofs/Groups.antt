-- Groups of hints that are gathered one after another, and the clauses that they cover.
use Rattle.std.proofs.Common.{◌≡◌, ◌≢◌, ℕ, zero, suc, ◌+◌, ◌<◌, ◌≤◌, Bool, true, false, not, ◌&&◌, ◌||◌, cond, List, [], ◌∷◌, ◌++◌, Option, Some, None, refl, sym, ap, subst, ◌∙◌, inl, inr, arith, append_assoc}
use Rattle.std.specs.Prelude.{ℤ, pos, negsuc, ◌==◌, AllPairs, Contains, find, slice_get}
use Rattle.std.specs.List.{list_all, list_any}
use Rattle.std.specs.Option.{option_map, option_or}
use Rattle.std.specs.Ordering.{int_eq}
use Rattle.std.specs.FinSet as set
use Rattle.std.proofs.lemmas.Bool.{and_parts, eq-eqb}
use Rattle.std.proofs.lemmas.List.{append-nil}
use Rattle.std.proofs.lemmas.List.Elements.{Contains-push_cases}
use Rattle.lls_lit.specs.Literal.{negation}
use Rattle.lls_lit.specs.Formula.{Clause}
use Rattle.lls_prooflog.specs.declared.step_fault.StepFault.{StepFault}
use Rattle.lls_prooflog.specs.declared.step_fault.StepFault.TheVariants.{NoConflict, NotUnit, RatMissing}
use Rattle.lls_prooflog.specs.Rat.{Group, group_fault, groups_fault, groups_of, lacks_group, missing_fault, pivot_fault, rat_fault}
use Rattle.lls_prooflog.specs.Spent.{is_positive}
use Rattle.lls_prooflog.specs.UnitWalk.{Live, find_clause, is_among, remaining, at_clause, at_hint, unit_walk, walk_on}
use Rattle.lls_store.specs.Clauses.{LiveClause, Literals, IsIn}
use Rattle.lls_store.proofs.Live.{clause_numbered-contained}
use Rattle.lls_store.proofs.Sets.{Contains-from_IsIn, IsIn-from_Contains}
use Rattle.lls_analyse.specs.Spelled.{Spells}
use Rattle.lls_analyse.proofs.Gathering.{later, nothing_there}
use Rattle.lls_analyse.proofs.Walk.{spelled}
use Rattle.lls_lemmas.specs.Pivot.{AreGroups, ResolvesBy}
use Rattle.lls_lemmas.proofs.Listing.{among-from_Contains, Contains-from_among}
use Rattle.lls_lemmas.proofs.Without.{same_number}

-- hints that are ids begin no group
groups_of-ids : (hs more : List ℤ) → list_all is_positive hs ≡ true → groups_of (hs ++ more) ≡ groups_of more
groups_of-ids [] more all = refl
groups_of-ids (pos n ∷ hs) more all = groups_of-ids hs more (and_parts (is_positive (pos n)) (list_all is_positive hs) all).1
groups_of-ids (negsuc n ∷ hs) more all = absurd cc

at_clause_closes : (hint : ℤ) (lits : List ℤ) (one other : ℤ → Option StepFault) → ((l : ℤ) → one l ≡ None → other l ≡ None) → at_clause hint lits one ≡ None → at_clause hint lits other ≡ None
at_clause_closes hint [] one other each h = refl
at_clause_closes hint (l ∷ ls) one other each h = elim (list_all (int_eq l) ls) as (λ b. cond b (one l) (Some (NotUnit hint)) ≡ None → cond b (other l) (Some (NotUnit hint)) ≡ None) [
  | true ↦ each l
  | false ↦ λ k. absurd cc
] h

-- hints that lead to a conflict do so whatever stands behind them
pub closes_before : (live : Live) (assumed hs more : List ℤ) → unit_walk live assumed hs ≡ None → unit_walk live assumed (hs ++ more) ≡ None
closes_before live assumed [] more h = absurd cc
closes_before live assumed (pos id ∷ hs) more h =
    elim (find_clause live id) as (λ o. at_hint (pos id) assumed o (λ l. unit_walk live (assumed ++ negation l ∷ []) hs) ≡ None → at_hint (pos id) assumed o (λ l. unit_walk live (assumed ++ negation l ∷ []) (hs ++ more)) ≡ None) [
      | None ↦ λ k. absurd cc
      | Some clause ↦ at_clause_closes (pos id) (remaining assumed clause) (λ l. unit_walk live (assumed ++ negation l ∷ []) hs) (λ l. unit_walk live (assumed ++ negation l ∷ []) (hs ++ more)) (λ l k. closes_before live (assumed ++ negation l ∷ []) hs more k)
    ] h
closes_before live assumed (negsuc n ∷ hs) more h = absurd cc

-- a group stands before those behind it
groups_of-first : (id : ℕ) (hs more : List ℤ) → 1 ≤ id → list_all is_positive hs ≡ true → groups_of (negation (pos id) ∷ hs ++ more) ≡ record { id = id; hints = hs ++ more } ∷ groups_of more
groups_of-first zero hs more low all = absurd (omega (arith, low))
groups_of-first (suc n) hs more low all =
    let next : n + 1 ≡ suc n = omega arith in
    ap (λ (i : ℕ). record { id = i; hints = hs ++ more } ∷ groups_of (hs ++ more)) next
    ∙ ap (λ (gs : List Group). record { id = suc n; hints = hs ++ more } ∷ gs) (groups_of-ids hs more all)

walk_on-first : (live : Live) (at_end : List ℤ → Option StepFault) (assumed hints : List ℤ) (id : ℕ) → 1 ≤ id → walk_on live at_end assumed (negation (pos id) ∷ hints) ≡ at_end assumed
walk_on-first live at_end assumed hints zero low = absurd (omega (arith, low))
walk_on-first live at_end assumed hints (suc n) low = refl

-- what one of the last groups passes, one of all does
any_behind : (p : Group → Bool) (hints more : List ℤ) → list_any p (groups_of more) ≡ true → list_any p (groups_of (hints ++ more)) ≡ true
any_behind p [] more is = is
any_behind p (pos n ∷ hs) more is = any_behind p hs more is
any_behind p (negsuc n ∷ hs) more is = either (p (record { id = n + 1; hints = hs ++ more })) (any_behind p hs more is) where
  either : (a : Bool) {b : Bool} → b ≡ true → (a || b) ≡ true
  either true is = refl
  either false is = is

module _ (live : List LiveClause) (pivot : ℤ) (lits : List ℤ) where
  pub groups_none : AreGroups live pivot lits [] []
  groups_none = record { front = λ pairs at_end more h. h; good = λ pairs more spells h. h; covers = λ c more inside tried opposes. absurd (nothing_there c.number tried) }

  -- a number of no clause that holds the pivot's negation
  pub groups_passed : (tried : List ℕ) (k : ℕ) (hints : List ℤ) → ((c : LiveClause) → Contains live c → c.number ≡ k → IsIn c.lits (negation pivot) → ⊥) → AreGroups live pivot lits tried hints → AreGroups live pivot lits (tried ++ k ∷ []) hints
  groups_passed tried k hints none h = record {
    front = h.front;
    good = h.good;
    covers = λ c more inside among opposes. elim (Contains-push_cases tried k c.number among) [
      | inl old ↦ h.covers c more inside old opposes
      | inr same ↦ absurd (none c inside (sym same) opposes)
    ];
  }

  -- a group more
  module _ (clause : LiveClause) (tried : List ℕ) (hints hs : List ℤ) (ids : AllPairs (λ (a b : LiveClause). a.id ≢ b.id) live) (numbers : AllPairs (λ (a b : LiveClause). a.number < b.number) live) (inside : Contains live clause) (low : 1 ≤ clause.id)
      (all : list_all is_positive hs ≡ true) (opposes : IsIn clause.lits (negation pivot)) (resolves : ResolvesBy live pivot lits clause hs) (h : AreGroups live pivot lits tried hints) where
    one_good : (pairs : Live) (more : List ℤ) → Spells live pairs → groups_fault pairs pivot lits (groups_of more) ≡ None → groups_fault pairs pivot lits (groups_of (negation (pos clause.id) ∷ hs ++ more)) ≡ None
    one_good pairs more spells rest =
        let s = spelled live pairs clause.number clause spells ids (clause_numbered-contained live clause numbers inside) in
        let group : Group = record { id = clause.id; hints = hs ++ more } in
        let among : is_among s.lits (negation pivot) ≡ true = among-from_Contains s.lits (negation pivot) (Contains-from_IsIn s.lits (negation pivot) (ap (λ (ls : Literals). set.contains ls (negation pivot)) s.same ∙ opposes)) in
        let good : group_fault pairs pivot lits group ≡ None = rw (s.found, among) (resolves pairs s.lits more spells s.same) in
        ap (groups_fault pairs pivot lits) (groups_of-first clause.id hs more low all)
        ∙ ap (λ (o : Option StepFault). option_or o (groups_fault pairs pivot lits (groups_of more))) good
        ∙ rest

    one_covered : (c : LiveClause) (more : List ℤ) → Contains live c → Contains (tried ++ clause.number ∷ []) c.number → IsIn c.lits (negation pivot) → list_any (λ (group : Group). group.id == c.id) (groups_of (hints ++ (negation (pos clause.id) ∷ hs ++ more))) ≡ true
    one_covered c more there among holds = elim (Contains-push_cases tried clause.number c.number among) [
      | inr equal ↦
          let same = same_number live clause.number clause c numbers (clause_numbered-contained live clause numbers inside) there (sym equal) in
          any_behind (λ (group : Group). group.id == c.id) hints (negation (pos clause.id) ∷ hs ++ more)
          (ap (list_any (λ (group : Group). group.id == c.id)) (groups_of-first clause.id hs more low all)
          ∙ ap (λ b. b || list_any (λ (group : Group). group.id == c.id) (groups_of more)) (eq-eqb clause.id c.id (ap (λ (x : LiveClause). x.id) (sym same))))
      | inl old ↦ h.covers c (negation (pos clause.id) ∷ hs ++ more) there old holds
    ]

    pub groups_more : AreGroups live pivot lits (tried ++ clause.number ∷ []) (hints ++ negation (pos clause.id) ∷ hs)
    groups_more = record {
      front = λ pairs at_end more ends.
          ap (walk_on pairs at_end lits) (append_assoc hints (negation (pos clause.id) ∷ hs) more)
          ∙ h.front pairs at_end (negation (pos clause.id) ∷ hs ++ more) (walk_on-first pairs at_end lits (hs ++ more) clause.id low);
      good = λ pairs more spells rest.
          ap (λ (ls : List ℤ). groups_fault pairs pivot lits (groups_of ls)) (append_assoc hints (negation (pos clause.id) ∷ hs) more)
          ∙ h.good pairs (negation (pos clause.id) ∷ hs ++ more) spells (one_good pairs more spells rest);
      covers = λ c more there among holds.
          ap (λ (ls : List ℤ). list_any (λ (group : Group). group.id == c.id) (groups_of ls)) (append_assoc hints (negation (pos clause.id) ∷ hs) more)
          ∙ one_covered c more there among holds;
    }

-- no clause holds the literal
none_holds : (l : ℤ) (live : List LiveClause) (pairs : Live) → Spells live pairs → ((c : LiveClause) → Contains live c → IsIn c.lits l → ⊥) → list_any (λ (pair : ℕ × Clause). is_among pair.1 l) pairs ≡ false
none_holds l [] [] spells none = refl
none_holds l [] (p ∷ ps) spells none = absurd spells
none_holds l (c ∷ cs) [] spells none = absurd spells
none_holds l (c ∷ cs) (p ∷ ps) spells none = by_test (is_among p.1 l) refl (none_holds l cs ps spells.1.1 (λ x inside. none x (later c cs x inside))) where
  by_test : (b : Bool) → is_among p.1 l ≡ b → list_any (λ (pair : ℕ × Clause). is_among pair.1 l) ps ≡ false → (b || list_any (λ (pair : ℕ × Clause). is_among pair.1 l) ps) ≡ false
  by_test true is rest = absurd (none c (0, omega arith, refl) (ap (λ (ls : Literals). set.contains ls l) (sym spells.1.0) ∙ IsIn-from_Contains p.1 l (Contains-from_among p.1 l is)))
  by_test false is rest = rest

-- each that does has a group
none_lacks : (l : ℤ) (groups : List Group) (live : List LiveClause) (pairs : Live) → Spells live pairs → ((c : LiveClause) → Contains live c → IsIn c.lits l → list_any (λ (group : Group). group.id == c.id) groups ≡ true) → find (lacks_group l groups) pairs ≡ None
none_lacks l groups [] [] spells covered = refl
none_lacks l groups [] (p ∷ ps) spells covered = absurd spells
none_lacks l groups (c ∷ cs) [] spells covered = absurd spells
none_lacks l groups (c ∷ cs) (p ∷ ps) spells covered = by_test (is_among p.1 l) refl (none_lacks l groups cs ps spells.1.1 (λ x inside. covered x (later c cs x inside))) where
  by_test : (b : Bool) → is_among p.1 l ≡ b → find (lacks_group l groups) ps ≡ None → cond (b && not (list_any (λ (group : Group). group.id == p.0) groups)) (Some p) (find (lacks_group l groups) ps) ≡ None
  by_test true is rest =
      let there = covered c (0, omega arith, refl) (ap (λ (ls : Literals). set.contains ls l) (sym spells.1.0) ∙ IsIn-from_Contains p.1 l (Contains-from_among p.1 l is)) in
      let has : list_any (λ (group : Group). group.id == p.0) groups ≡ true = ap (λ n. list_any (λ (group : Group). group.id == n) groups) spells.0 ∙ there in
      ap (λ b. cond (not b) (Some p) (find (lacks_group l groups) ps)) has ∙ rest
  by_test false is rest = rest

-- good groups that leave out no clause
groups_pass : (live : List LiveClause) (pairs : Live) (pivot : ℤ) (assumed : List ℤ) (groups : List Group) → Spells live pairs → groups_fault pairs pivot assumed groups ≡ None → ((c : LiveClause) → Contains live c → IsIn c.lits (negation pivot) → list_any (λ (group : Group). group.id == c.id) groups ≡ true)
    → pivot_fault pairs pivot assumed groups ≡ None
groups_pass live pairs pivot assumed [] spells good covered =
    ap (λ b. cond b (Some NoConflict) None) (none_holds (negation pivot) live pairs spells (λ c inside holds. let clash : false ≡ true = covered c inside holds in absurd cc))
groups_pass live pairs pivot assumed (group ∷ groups) spells good covered =
    ap (λ (o : Option StepFault). option_or o (missing_fault pairs (negation pivot) (group ∷ groups))) good
    ∙ ap (option_map (λ (pair : ℕ × Clause). RatMissing pair.0)) (none_lacks (negation pivot) (group ∷ groups) live pairs spells covered)

pub rat_fault-first : (live : Live) (lits : List ℤ) (pivot : ℤ) (groups : List Group) (assumed : List ℤ) → slice_get lits 0 ≡ Some pivot → rat_fault live lits groups assumed ≡ pivot_fault live pivot assumed groups
rat_fault-first live [] pivot groups assumed first = absurd cc
rat_fault-first live (l ∷ ls) pivot groups assumed first = let same : l ≡ pivot = cc in ap (λ m. pivot_fault live m assumed groups) same

-- groups that cover all clauses add the lemma
pub groups_add : (live : List LiveClause) (pairs : Live) (pivot : ℤ) (lits : List ℤ) (tried : List ℕ) (hints : List ℤ) → slice_get lits 0 ≡ Some pivot → ((c : LiveClause) → Contains live c → Contains tried c.number) → AreGroups live pivot lits tried hints → Spells live pairs
    → walk_on pairs (rat_fault pairs lits (groups_of hints)) lits hints ≡ None
groups_add live pairs pivot lits tried hints first all h spells =
    let at_end : List ℤ → Option StepFault = rat_fault pairs lits (groups_of hints) in
    let P : List ℤ → Type 0 = λ ls. groups_fault pairs pivot lits (groups_of ls) ≡ None in
    ap (walk_on pairs at_end lits) (sym (append-nil hints))
    ∙ h.front pairs at_end [] refl
    ∙ rat_fault-first pairs lits pivot (groups_of hints) lits first
    ∙ groups_pass live pairs pivot lits (groups_of hints) spells (subst P (append-nil hints) (h.good pairs [] spells refl))
    (λ c inside holds. ap (λ (ls : List ℤ). list_any (λ (group : Group). group.id == c.id) (groups_of ls)) (sym (append-nil hints)) ∙ h.covers c [] inside (all c inside) holds)
