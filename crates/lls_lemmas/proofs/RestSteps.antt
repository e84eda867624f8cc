-- The steps that are kept of a log are without fault, each in its turn, where each keeps what it names.
use Rattle.std.proofs.Common.{◌≡◌, ℕ, suc, ◌+◌, ◌<◌, ◌≤◌, Bool, true, false, not, ◌||◌, ◌&&◌, cond, List, [], ◌∷◌, ◌++◌, length, Option, Some, None, is_some, refl, sym, ap, subst, ◌∙◌, inl, inr, arith, append_assoc}
use Rattle.std.specs.Prelude.{ℤ, pos, negsuc, ◌⊎◌, ◌==◌, ◌↔◌, nat_le, nat_lt, find, filter, slice_get, slice_index_or, count_by}
use Rattle.std.specs.List.{enumerate_from, list_all, list_any}
use Rattle.std.specs.Option.{option_map, option_or}
use Rattle.std.specs.Ordering.{int_eq}
use Rattle.std.specs.Cmp.Derive.{both_true}
use Rattle.std.proofs.lemmas.Bool.Decides.{Decides-eqb, nat_tests}
use Rattle.std.proofs.lemmas.List.{append-nil}
use Rattle.std.proofs.lemmas.List.Elements.{filter-append}
use Rattle.std.proofs.lemmas.List.Sums.{sum_by-cons}
use Rattle.lls_lit.specs.Literal.{negation, variable_of}
use Rattle.lls_lit.specs.Formula.{Clause, Cnf}
use Rattle.lls_prooflog.specs.declared.step.Step.{Step}
use Rattle.lls_prooflog.specs.declared.step.Step.TheVariants.{Add, Del}
use Rattle.lls_prooflog.specs.declared.step_fault.StepFault.{StepFault}
use Rattle.lls_prooflog.specs.declared.step_fault.StepFault.TheVariants.{IdLive, NoConflict, NotUnit, RatMissing, RatOther}
use Rattle.lls_prooflog.specs.Rat.{Group, group_fault, groups_fault, groups_of, has_true, lacks_group, missing_fault, other_fault, others, pivot_fault, rat_fault, resolvent_fault}
use Rattle.lls_prooflog.specs.Spent.{EachStep, LogState, is_addition, log_after, log_start}
use Rattle.lls_prooflog.specs.Steps.{after, fault_of}
use Rattle.lls_prooflog.specs.UnitWalk.{Live, at_clause, at_hint, find_clause, is_among, remaining, unit_walk, walk_on}
use Rattle.lls_prooflog.proofs.Soundness.{adds_well}
use Rattle.lls_lemmas.specs.Lemmas.{AreRising, EndsEmpty, HasNoFault}
use Rattle.lls_lemmas.specs.Rest.{keeps, kept_deletion, kept_step, kept_steps, names, IsNeeded}
use Rattle.lls_lemmas.specs.Rest.IsNeeded.{last, named}
use Rattle.lls_lemmas.proofs.RestMarks.{or_right, rising_above}

module _ (keep : ℕ → Bool) where
  -- the live clauses that are kept
  abbrev left : Live → Live
  left live = filter (λ (pair : ℕ × Clause). keep pair.0) live

  find_left : (live : Live) (id : ℕ) → keep id ≡ true → find_clause (left live) id ≡ find_clause live id
  find_left [] id kept = refl
  find_left (p ∷ ps) id kept = by (keep p.0) refl (p.0 == id) refl (find_left ps id kept) where
    by : (a : Bool) → keep p.0 ≡ a → (b : Bool) → (p.0 == id) ≡ b → find_clause (left ps) id ≡ find_clause ps id → find_clause (cond a (p ∷ left ps) (left ps)) id ≡ cond b (Some p.1) (find_clause ps id)
    by true is true is' rest = ap (λ b. cond b (Some p.1) (find_clause (left ps) id)) is'
    by true is false is' rest = ap (λ b. cond b (Some p.1) (find_clause (left ps) id)) is' ∙ rest
    by false is true is' rest = let clash : false ≡ true = sym is ∙ ap keep ((Decides-eqb p.0 id).0 is') ∙ kept in absurd cc
    by false is false is' rest = rest

  find_left_none : (live : Live) (id : ℕ) → find_clause live id ≡ None → find_clause (left live) id ≡ None
  find_left_none [] id none = refl
  find_left_none (p ∷ ps) id none = by (keep p.0) (p.0 == id) refl none (λ h. find_left_none ps id h) where
    by : (a b : Bool) → (p.0 == id) ≡ b → cond b (Some p.1) (find_clause ps id) ≡ None → (find_clause ps id ≡ None → find_clause (left ps) id ≡ None) → find_clause (cond a (p ∷ left ps) (left ps)) id ≡ None
    by a true is h rest = absurd cc
    by true false is h rest = ap (λ b. cond b (Some p.1) (find_clause (left ps) id)) is ∙ rest h
    by false false is h rest = rest h

  -- each clause that is live and named by the hints is kept
  abbrev AreKept : Live → List ℤ → Type 0
  AreKept live [] = Unit {0}
  AreKept live (h ∷ hs) = ((clause : Clause) → find_clause live (variable_of h) ≡ Some clause → keep (variable_of h) ≡ true) × AreKept live hs

  closes : (hint : ℤ) (lits : List ℤ) (one other : ℤ → Option StepFault) → ((l : ℤ) → one l ≡ None → other l ≡ None) → at_clause hint lits one ≡ None → at_clause hint lits other ≡ None
  closes hint [] one other each h = refl
  closes hint (l ∷ ls) one other each h = elim (list_all (int_eq l) ls) as (λ b. cond b (one l) (Some (NotUnit hint)) ≡ None → cond b (other l) (Some (NotUnit hint)) ≡ None) [
    | true ↦ each l
    | false ↦ λ k. absurd cc
  ] h

  -- so the walk goes as before
  walk_left : (live : Live) (at_end at_end' : List ℤ → Option StepFault) → ((ls : List ℤ) → at_end ls ≡ None → at_end' ls ≡ None) → (assumed hints : List ℤ) → AreKept live hints → walk_on live at_end assumed hints ≡ None → walk_on (left live) at_end' assumed hints ≡ None
  walk_left live at_end at_end' ends assumed [] kept good = ends assumed good
  walk_left live at_end at_end' ends assumed (negsuc n ∷ hs) kept good = ends assumed good
  walk_left live at_end at_end' ends assumed (pos id ∷ hs) kept good = by (find_clause live id) refl good (λ l h. walk_left live at_end at_end' ends (assumed ++ negation l ∷ []) hs kept.1 h) where
    by : (o : Option Clause) → find_clause live id ≡ o → at_hint (pos id) assumed o (λ l. walk_on live at_end (assumed ++ negation l ∷ []) hs) ≡ None
        → ((l : ℤ) → walk_on live at_end (assumed ++ negation l ∷ []) hs ≡ None → walk_on (left live) at_end' (assumed ++ negation l ∷ []) hs ≡ None)
        → at_hint (pos id) assumed (find_clause (left live) id) (λ l. walk_on (left live) at_end' (assumed ++ negation l ∷ []) hs) ≡ None
    by None is h rest = absurd cc
    by (Some clause) is h rest =
        ap (λ (o : Option Clause). at_hint (pos id) assumed o (λ l. walk_on (left live) at_end' (assumed ++ negation l ∷ []) hs)) (find_left live id (kept.0 clause is) ∙ is)
        ∙ closes (pos id) (remaining assumed clause) (λ l. walk_on live at_end (assumed ++ negation l ∷ []) hs) (λ l. walk_on (left live) at_end' (assumed ++ negation l ∷ []) hs) rest h

  unit_left : (live : Live) (assumed hints : List ℤ) → AreKept live hints → unit_walk live assumed hints ≡ None → unit_walk (left live) assumed hints ≡ None
  unit_left live assumed hints kept good = walk_left live (λ _. Some NoConflict) (λ _. Some NoConflict) (λ ls h. h) assumed hints kept good

  -- so is each clause of a group
  abbrev KeepsGroups : Live → List Group → Type 0
  KeepsGroups live [] = Unit {0}
  KeepsGroups live (g ∷ gs) = ((clause : Clause) → find_clause live g.id ≡ Some clause → keep g.id ≡ true) × (AreKept live g.hints × KeepsGroups live gs)

  groups_kept : (live : Live) (hints : List ℤ) → AreKept live hints → KeepsGroups live (groups_of hints)
  groups_kept live [] kept = tt
  groups_kept live (pos id ∷ hs) kept = groups_kept live hs kept.1
  groups_kept live (negsuc n ∷ hs) kept = (kept.0, (kept.1, groups_kept live hs kept.1))

  no_fault_either : (a b : Option StepFault) → option_or a b ≡ None → (a ≡ None) × (b ≡ None)
  no_fault_either None b h = (refl, h)
  no_fault_either (Some x) b h = absurd cc

  group_left : (live : Live) (pivot : ℤ) (assumed : List ℤ) (g : Group) → ((clause : Clause) → find_clause live g.id ≡ Some clause → keep g.id ≡ true) → AreKept live g.hints → group_fault live pivot assumed g ≡ None → group_fault (left live) pivot assumed g ≡ None
  group_left live pivot assumed g one hints good = by (find_clause live g.id) refl good where
    by : (o : Option Clause) → find_clause live g.id ≡ o → other_fault live pivot assumed g o ≡ None → other_fault (left live) pivot assumed g (find_clause (left live) g.id) ≡ None
    by None is h = absurd cc
    by (Some clause) is h =
        ap (other_fault (left live) pivot assumed g) (find_left live g.id (one clause is) ∙ is)
        ∙ (elim (is_among clause (negation pivot)) as (λ b. cond b (resolvent_fault live assumed (others (negation pivot) clause) g.hints) (Some (RatOther g.id)) ≡ None → cond b (resolvent_fault (left live) assumed (others (negation pivot) clause) g.hints) (Some (RatOther g.id)) ≡ None) [
          | true ↦ λ k. elim (has_true assumed (others (negation pivot) clause)) as (λ b. cond b None (unit_walk live (assumed ++ others (negation pivot) clause) g.hints) ≡ None → cond b None (unit_walk (left live) (assumed ++ others (negation pivot) clause) g.hints) ≡ None) [
            | true ↦ λ _. refl
            | false ↦ λ w. unit_left live (assumed ++ others (negation pivot) clause) g.hints hints w
          ] k
          | false ↦ λ k. absurd cc
        ] h)

  groups_left : (live : Live) (pivot : ℤ) (assumed : List ℤ) (groups : List Group) → KeepsGroups live groups → groups_fault live pivot assumed groups ≡ None → groups_fault (left live) pivot assumed groups ≡ None
  groups_left live pivot assumed [] kept good = refl
  groups_left live pivot assumed (g ∷ gs) kept good =
      let parts = no_fault_either (group_fault live pivot assumed g) (groups_fault live pivot assumed gs) good in
      ap (λ (o : Option StepFault). option_or o (groups_fault (left live) pivot assumed gs)) (group_left live pivot assumed g kept.0 kept.1.0 parts.0) ∙ groups_left live pivot assumed gs kept.1.1 parts.1

  none_any : (test : ℕ × Clause → Bool) (live : Live) → list_any test live ≡ false → list_any test (left live) ≡ false
  none_any test [] none = refl
  none_any test (p ∷ ps) none = by (keep p.0) (test p) refl none (λ h. none_any test ps h) where
    by : (a b : Bool) → test p ≡ b → (b || list_any test ps) ≡ false → (list_any test ps ≡ false → list_any test (left ps) ≡ false) → list_any test (cond a (p ∷ left ps) (left ps)) ≡ false
    by a true is h rest = absurd cc
    by true false is h rest = ap (λ b. b || list_any test (left ps)) is ∙ rest h
    by false false is h rest = rest h

  none_found : (test : ℕ × Clause → Bool) (live : Live) → find test live ≡ None → find test (left live) ≡ None
  none_found test [] none = refl
  none_found test (p ∷ ps) none = by (keep p.0) (test p) refl none (λ h. none_found test ps h) where
    by : (a b : Bool) → test p ≡ b → cond b (Some p) (find test ps) ≡ None → (find test ps ≡ None → find test (left ps) ≡ None) → find test (cond a (p ∷ left ps) (left ps)) ≡ None
    by a true is h rest = absurd cc
    by true false is h rest = ap (λ b. cond b (Some p) (find test (left ps))) is ∙ rest h
    by false false is h rest = rest h

  no_map : (f : ℕ × Clause → StepFault) (o : Option (ℕ × Clause)) → option_map f o ≡ None → o ≡ None
  no_map f None h = refl
  no_map f (Some x) h = absurd cc

  pivot_left : (live : Live) (pivot : ℤ) (assumed : List ℤ) (groups : List Group) → KeepsGroups live groups → pivot_fault live pivot assumed groups ≡ None → pivot_fault (left live) pivot assumed groups ≡ None
  pivot_left live pivot assumed [] kept good =
      let test : ℕ × Clause → Bool = λ pair. is_among pair.1 (negation pivot) in
      elim (list_any test live) as (λ b. list_any test live ≡ b → cond b (Some NoConflict) None ≡ None → cond (list_any test (left live)) (Some NoConflict) None ≡ None) [
        | true ↦ λ _ h. absurd cc
        | false ↦ λ is _. ap (λ b. cond b (Some NoConflict) None) (none_any test live is)
      ] refl good
  pivot_left live pivot assumed (g ∷ gs) kept good =
      let parts = no_fault_either (groups_fault live pivot assumed (g ∷ gs)) (missing_fault live (negation pivot) (g ∷ gs)) good in
      let none = none_found (lacks_group (negation pivot) (g ∷ gs)) live (no_map (λ pair. RatMissing pair.0) (find (lacks_group (negation pivot) (g ∷ gs)) live) parts.1) in
      ap (λ (o : Option StepFault). option_or o (missing_fault (left live) (negation pivot) (g ∷ gs))) (groups_left live pivot assumed (g ∷ gs) kept parts.0)
      ∙ ap (option_map (λ (pair : ℕ × Clause). RatMissing pair.0)) none

  rat_left : (live : Live) (lits : Clause) (groups : List Group) → KeepsGroups live groups → (assumed : List ℤ) → rat_fault live lits groups assumed ≡ None → rat_fault (left live) lits groups assumed ≡ None
  rat_left live [] [] kept assumed good = absurd cc
  rat_left live [] (g ∷ gs) kept assumed good = absurd cc
  rat_left live (pivot ∷ lits) groups kept assumed good = pivot_left live pivot assumed groups kept good

  -- nothing is wrong with an addition that names none but what is kept
  addition_left : (live : Live) (id : ℕ) (lits hints : List ℤ) → AreKept live hints → fault_of live (Add id lits hints) ≡ None → fault_of (left live) (Add id lits hints) ≡ None
  addition_left live id lits hints kept good =
      let w = adds_well live id lits hints good in
      ap (λ (o : Option Clause). cond (is_some o) (Some (IdLive id)) (walk_on (left live) (rat_fault (left live) lits (groups_of hints)) lits hints)) (find_left_none live id w.new)
      ∙ walk_left live (rat_fault live lits (groups_of hints)) (rat_fault (left live) lits (groups_of hints)) (rat_left live lits (groups_of hints) (groups_kept live hints kept)) lits hints kept w.walk

  -- what hints name is kept, where what they name of the ids before is
  are_kept : (live : Live) (id : ℕ) (hints : List ℤ) → ((q : ℕ) (clause : Clause) → find_clause live q ≡ Some clause → q < id) → ((other : ℕ) → names hints id other ≡ true → keep other ≡ true) → AreKept live hints
  are_kept live id [] below kept = tt
  are_kept live id (h ∷ hs) below kept = (
    λ clause found.
        let lt : nat_lt (variable_of h) id ≡ true = (let low = below (variable_of h) clause found in grind (arith, nat_tests)) in
        let both : ((variable_of h == variable_of h) && nat_lt (variable_of h) id) ≡ true = both_true ((Decides-eqb (variable_of h) (variable_of h)).1 refl) lt in
        kept (variable_of h) (ap (λ b. b || names hs id (variable_of h)) both),
    are_kept live id hs below (λ other is. kept other (or_right (variable_of h == other && nat_lt other id) is)),
  )

  abbrev KeepsNamed : List Step → Type 0
  KeepsNamed [] = Unit {0}
  KeepsNamed (Add id lits hints ∷ steps) = (keep id ≡ true → (other : ℕ) → names hints id other ≡ true → keep other ≡ true) × KeepsNamed steps
  KeepsNamed (Del ids ∷ steps) = KeepsNamed steps

  find_push : (live : Live) (id q : ℕ) (lits clause : Clause) → find_clause (live ++ (id, lits) ∷ []) q ≡ Some clause → (find_clause live q ≡ Some clause) ⊎ (id ≡ q)
  find_push [] id q lits clause found = elim (id == q) as (λ b. (id == q) ≡ b → cond b (Some lits) None ≡ Some clause → (None ≡ Some clause) ⊎ (id ≡ q)) [
    | true ↦ λ is _. inr ((Decides-eqb id q).0 is)
    | false ↦ λ _ h. absurd cc
  ] refl found
  find_push (p ∷ ps) id q lits clause found = elim (p.0 == q) as (λ b. cond b (Some p.1) (find_clause (ps ++ (id, lits) ∷ []) q) ≡ Some clause → (cond b (Some p.1) (find_clause ps q) ≡ Some clause) ⊎ (id ≡ q)) [
    | true ↦ λ h. inl h
    | false ↦ λ h. find_push ps id q lits clause h
  ] found

  find_after : (live : Live) (ids : List ℕ) (q : ℕ) (clause : Clause) → find_clause (after live (Del ids)) q ≡ Some clause → find_clause live q ≡ Some clause
  find_after [] ids q clause found = found
  find_after (p ∷ ps) ids q clause found = by (list_any (λ id. id == p.0) ids) refl (p.0 == q) refl found (λ h. find_after ps ids q clause h) (λ is same. gone ps ids q is same) where
    -- what is taken out isn't found
    gone : (live : Live) (xs : List ℕ) (n : ℕ) → list_any (λ id. id == n) xs ≡ true → find_clause (after live (Del xs)) n ≡ Some clause → ⊥
    gone [] xs n is h = absurd cc
    gone (r ∷ rs) xs n is h = step (list_any (λ id. id == r.0) xs) refl (r.0 == n) refl h (λ k. gone rs xs n is k) where
      step : (a : Bool) → list_any (λ id. id == r.0) xs ≡ a → (b : Bool) → (r.0 == n) ≡ b → find_clause (cond (not a) (r ∷ after rs (Del xs)) (after rs (Del xs))) n ≡ Some clause → (find_clause (after rs (Del xs)) n ≡ Some clause → ⊥) → ⊥
      step true is' b is'' k rest = rest k
      step false is' true is'' k rest = let clash : false ≡ true = sym is' ∙ ap (λ m. list_any (λ id. id == m) xs) ((Decides-eqb r.0 n).0 is'') ∙ is in absurd cc
      step false is' false is'' k rest = rest (ap (λ b. cond b (Some r.1) (find_clause (after rs (Del xs)) n)) (sym is'') ∙ k)

    by : (a : Bool) → list_any (λ id. id == p.0) ids ≡ a → (b : Bool) → (p.0 == q) ≡ b → find_clause (cond (not a) (p ∷ after ps (Del ids)) (after ps (Del ids))) q ≡ Some clause → (find_clause (after ps (Del ids)) q ≡ Some clause → find_clause ps q ≡ Some clause)
        → (list_any (λ id. id == q) ids ≡ true → find_clause (after ps (Del ids)) q ≡ Some clause → ⊥) → cond b (Some p.1) (find_clause ps q) ≡ Some clause
    by true is true is' h rest none = absurd (none (ap (λ m. list_any (λ id. id == m) ids) (sym ((Decides-eqb p.0 q).0 is')) ∙ is) h)
    by true is false is' h rest none = rest h
    by false is true is' h rest none = ap (λ b. cond b (Some p.1) (find_clause (after ps (Del ids)) q)) (sym is') ∙ h
    by false is false is' h rest none = rest (ap (λ b. cond b (Some p.1) (find_clause (after ps (Del ids)) q)) (sym is') ∙ h)

  any_keep : (ids : List ℕ) (q : ℕ) → keep q ≡ true → list_any (λ id. id == q) (filter keep ids) ≡ list_any (λ id. id == q) ids
  any_keep [] q kept = refl
  any_keep (id ∷ ids) q kept = by (keep id) refl (id == q) refl (any_keep ids q kept) where
    by : (a : Bool) → keep id ≡ a → (b : Bool) → (id == q) ≡ b → list_any (λ i. i == q) (filter keep ids) ≡ list_any (λ i. i == q) ids → list_any (λ i. i == q) (cond a (id ∷ filter keep ids) (filter keep ids)) ≡ (b || list_any (λ i. i == q) ids)
    by true is b is' rest = ap (λ x. x || list_any (λ i. i == q) (filter keep ids)) is' ∙ ap (λ x. b || x) rest
    by false is true is' rest = let clash : false ≡ true = sym is ∙ ap keep ((Decides-eqb id q).0 is') ∙ kept in absurd cc
    by false is false is' rest = rest

  -- a deletion of what is kept leaves what is kept
  left_deletion : (live : Live) (ids : List ℕ) → left (after live (Del ids)) ≡ after (left live) (Del (filter keep ids))
  left_deletion [] ids = refl
  left_deletion (p ∷ ps) ids = by (keep p.0) refl (list_any (λ id. id == p.0) ids) refl (left_deletion ps ids) where
    by : (a : Bool) → keep p.0 ≡ a → (b : Bool) → list_any (λ id. id == p.0) ids ≡ b → left (after ps (Del ids)) ≡ after (left ps) (Del (filter keep ids))
        → left (cond (not b) (p ∷ after ps (Del ids)) (after ps (Del ids))) ≡ after (cond a (p ∷ left ps) (left ps)) (Del (filter keep ids))
    by true is true is' rest = rest ∙ sym (ap (λ x. cond (not x) (p ∷ after (left ps) (Del (filter keep ids))) (after (left ps) (Del (filter keep ids)))) (any_keep ids p.0 is ∙ is'))
    by true is false is' rest = ap (λ x. cond x (p ∷ left (after ps (Del ids))) (left (after ps (Del ids)))) is ∙ ap (λ (l : Live). p ∷ l) rest ∙ sym (ap (λ x. cond (not x) (p ∷ after (left ps) (Del (filter keep ids))) (after (left ps) (Del (filter keep ids)))) (any_keep ids p.0 is ∙ is'))
    by false is true is' rest = rest
    by false is false is' rest = ap (λ x. cond x (p ∷ left (after ps (Del ids))) (left (after ps (Del ids)))) is ∙ rest

  after_none : (live : Live) → after live (Del []) ≡ live
  after_none [] = refl
  after_none (p ∷ ps) = ap (λ (l : Live). p ∷ l) (after_none ps)

  left_push : (live : Live) (id : ℕ) (lits : Clause) → left (live ++ (id, lits) ∷ []) ≡ left live ++ cond (keep id) ((id, lits) ∷ []) []
  left_push live id lits = filter-append (λ (pair : ℕ × Clause). keep pair.0) live ((id, lits) ∷ [])

  -- no step of what is kept is at fault
  each_left : (state state' : LogState) (last : ℕ) (steps : List Step) → state'.live ≡ left state.live → ((q : ℕ) (clause : Clause) → find_clause state.live q ≡ Some clause → q ≤ last) → AreRising last steps → KeepsNamed steps → EachStep HasNoFault state steps → EachStep HasNoFault state' (kept_steps keep steps)
  each_left state state' most [] same below rising kept good = tt
  each_left state state' most (Add id lits hints ∷ steps) same below rising kept good =
      by (keep id) refl (λ next is. each_left (log_after state (Add id lits hints)) next id steps is below' rising.1 kept.1 good.1) where
        below' : (q : ℕ) (clause : Clause) → find_clause (state.live ++ (id, lits) ∷ []) q ≡ Some clause → q ≤ id
        below' q clause found = elim (find_push state.live id q lits clause found) [ inl old ↦ omega (arith, below q clause old, rising.0) | inr equal ↦ omega (arith, equal) ]

        by : (a : Bool) → keep id ≡ a → ((next : LogState) → next.live ≡ left (state.live ++ (id, lits) ∷ []) → EachStep HasNoFault next (kept_steps keep steps)) → EachStep HasNoFault state' (cond a (Add id lits hints ∷ []) [] ++ kept_steps keep steps)
        by true is rest =
            let P : Live → Type 0 = λ live. fault_of live (Add id lits hints) ≡ None in (
              subst P (sym same) (addition_left state.live id lits hints (are_kept state.live id hints (λ q clause found. omega (arith, below q clause found, rising.0)) (kept.0 is)) good.0),
              rest (log_after state' (Add id lits hints)) (ap (λ (l : Live). l ++ (id, lits) ∷ []) same ∙ sym (left_push state.live id lits ∙ ap (λ b. left state.live ++ cond b ((id, lits) ∷ []) []) is)),
            )
        by false is rest = rest state' (same ∙ sym (left_push state.live id lits ∙ ap (λ b. left state.live ++ cond b ((id, lits) ∷ []) []) is ∙ append-nil (left state.live)))
  each_left state state' most (Del ids ∷ steps) same below rising kept good =
      by (filter keep ids) refl (λ next is. each_left (log_after state (Del ids)) next most steps is (λ q clause found. below q clause (find_after state.live ids q clause found)) rising kept good.1) where
        by : (ks : List ℕ) → filter keep ids ≡ ks → ((next : LogState) → next.live ≡ left (after state.live (Del ids)) → EachStep HasNoFault next (kept_steps keep steps)) → EachStep HasNoFault state' (kept_deletion ks ++ kept_steps keep steps)
        by [] is rest = rest state' (same ∙ sym (left_deletion state.live ids ∙ ap (λ (xs : List ℕ). after (left state.live) (Del xs)) is ∙ after_none (left state.live)))
        by (k ∷ ks) is rest = (refl, rest (log_after state' (Del (k ∷ ks))) (ap (λ (l : Live). after l (Del (k ∷ ks))) same ∙ sym (left_deletion state.live ids ∙ ap (λ (xs : List ℕ). after (left state.live) (Del xs)) is)))

  kept-append : (xs ys : List Step) → kept_steps keep (xs ++ ys) ≡ kept_steps keep xs ++ kept_steps keep ys
  kept-append [] ys = refl
  kept-append (x ∷ xs) ys = ap (λ (ss : List Step). kept_step keep x ++ ss) (kept-append xs ys) ∙ sym (append_assoc (kept_step keep x) (kept_steps keep xs) (kept_steps keep ys))

  pub kept-push : (xs : List Step) (x : Step) → kept_steps keep (xs ++ x ∷ []) ≡ kept_steps keep xs ++ kept_step keep x
  kept-push xs x = kept-append xs (x ∷ []) ∙ ap (λ (ss : List Step). kept_steps keep xs ++ ss) (append-nil (kept_step keep x))

  pub ends_left : (steps : List Step) → (e : EndsEmpty steps) → keep e.id ≡ true → EndsEmpty (kept_steps keep steps)
  ends_left steps e kept = record {
    before = kept_steps keep e.before;
    id = e.id;
    hints = e.hints;
    ends = ap (kept_steps keep) e.ends ∙ kept-push e.before (Add e.id [] e.hints) ∙ ap (λ b. kept_steps keep e.before ++ cond b (Add e.id [] e.hints ∷ []) []) kept;
  }

  -- no more additions than before
  pub fewer_left : (steps : List Step) → count_by is_addition (kept_steps keep steps) ≤ count_by is_addition steps
  fewer_left [] = omega arith
  fewer_left (Add id lits hints ∷ steps) = by (keep id) (fewer_left steps) where
    by : (a : Bool) → count_by is_addition (kept_steps keep steps) ≤ count_by is_addition steps → count_by is_addition (cond a (Add id lits hints ∷ []) [] ++ kept_steps keep steps) ≤ count_by is_addition (Add id lits hints ∷ steps)
    by true rest = omega (arith, rest, sum_by-cons (λ (step : Step). cond (is_addition step) 1 0) (Add id lits hints) (kept_steps keep steps), sum_by-cons (λ (step : Step). cond (is_addition step) 1 0) (Add id lits hints) steps)
    by false rest = omega (arith, rest, sum_by-cons (λ (step : Step). cond (is_addition step) 1 0) (Add id lits hints) steps)
  fewer_left (Del ids ∷ steps) = by (filter keep ids) (fewer_left steps) where
    by : (ks : List ℕ) → count_by is_addition (kept_steps keep steps) ≤ count_by is_addition steps → count_by is_addition (kept_deletion ks ++ kept_steps keep steps) ≤ count_by is_addition (Del ids ∷ steps)
    by [] rest = rest
    by (k ∷ ks) rest = rest

  keeps_named : (steps : List Step) → ((place id : ℕ) (lits : Clause) (hints : List ℤ) → slice_get steps place ≡ Some (Add id lits hints) → keep id ≡ true → (other : ℕ) → names hints id other ≡ true → keep other ≡ true) → KeepsNamed steps
  keeps_named [] each = tt
  keeps_named (Add id lits hints ∷ steps) each = (each 0 id lits hints refl, keeps_named steps (λ place. each (suc place)))
  keeps_named (Del ids ∷ steps) each = keeps_named steps (λ place. each (suc place))

  left_numbered : (n : ℕ) (clauses : List Clause) → ((q : ℕ) → q < n + length clauses → keep q ≡ true) → left (enumerate_from n clauses) ≡ enumerate_from n clauses
  left_numbered n [] kept = refl
  left_numbered n (c ∷ cs) kept = ap (λ b. cond b ((n, c) ∷ left (enumerate_from (n + 1) cs)) (left (enumerate_from (n + 1) cs))) (kept n (omega arith)) ∙ ap (λ (l : Live). (n, c) ∷ l) (left_numbered (n + 1) cs (λ q lt. kept q (omega (arith, lt))))

-- a formula's clauses have ids up to their number
numbered_below : (n : ℕ) (clauses : List Clause) (q : ℕ) (clause : Clause) → find_clause (enumerate_from n clauses) q ≡ Some clause → q < n + length clauses
numbered_below n [] q clause found = absurd cc
numbered_below n (c ∷ cs) q clause found = elim (n == q) as (λ b. (n == q) ≡ b → cond b (Some c) (find_clause (enumerate_from (n + 1) cs) q) ≡ Some clause → q < n + length (c ∷ cs)) [
  | true ↦ λ is _. omega (arith, (Decides-eqb n q).0 is)
  | false ↦ λ _ h. omega (arith, numbered_below (n + 1) cs q clause h)
] refl found

module _ (formula : Cnf) (steps : List Step) (marks : List Bool) (rising : AreRising (length formula.clauses) steps) (needed : (id : ℕ) → (slice_index_or marks id false ≡ true) ↔ IsNeeded steps id) where
  -- what a kept addition names is kept
  keeps_each : (place id : ℕ) (lits : Clause) (hints : List ℤ) → slice_get steps place ≡ Some (Add id lits hints) → keeps (length formula.clauses) marks id ≡ true → (other : ℕ) → names hints id other ≡ true → keeps (length formula.clauses) marks other ≡ true
  keeps_each place id lits hints at kept other named_one =
      let above = rising_above (length formula.clauses) steps place id lits hints rising at in
      let beyond : nat_le id (length formula.clauses) ≡ false = grind (arith, nat_tests) in
      let marked : slice_index_or marks id false ≡ true = ap (λ b. b || slice_index_or marks id false) (sym beyond) ∙ kept in
      or_right (nat_le other (length formula.clauses)) ((needed other).1 (named id other ((needed id).0 marked) (record { place = place; lits = lits; hints = hints; step = at; named = named_one })))

  -- the steps that are kept of a log without fault are such a log
  pub rest_well : EachStep HasNoFault (log_start formula) steps → EachStep HasNoFault (log_start formula) (kept_steps (keeps (length formula.clauses) marks) steps)
  rest_well good =
      let n = length formula.clauses in
      let keep = keeps n marks in
      let of_formula : (q : ℕ) → q < 1 + n → keep q ≡ true = λ q lt. (let le : nat_le q n ≡ true = grind (arith, nat_tests) in ap (λ b. b || slice_index_or marks q false) le) in
      each_left keep (log_start formula) (log_start formula) n steps (sym (left_numbered keep 1 formula.clauses of_formula)) (λ q clause found. (let lt = numbered_below 1 formula.clauses q clause found in omega (arith, lt))) rising (keeps_named keep steps keeps_each) good

  -- and end as it does
  pub rest_ends : EndsEmpty steps → EndsEmpty (kept_steps (keeps (length formula.clauses) marks) steps)
  rest_ends e =
      let is = (needed e.id).1 (last e.id (record { before = e.before; lits = []; hints = e.hints; ends = e.ends })) in
      ends_left (keeps (length formula.clauses) marks) steps e (or_right (nat_le e.id (length formula.clauses)) is)
