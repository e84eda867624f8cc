-- What holds of the needed additions of an accepted proof, once they are numbered anew.
use Rattle.std.proofs.Common.{◌≡◌, ℕ, zero, suc, ◌+◌, ◌<◌, ◌≤◌, Bool, true, false, ◌||◌, cond, List, [], ◌∷◌, ◌++◌, All, length, map, Option, Some, None, refl, sym, ap, ◌∙◌, subst, inl, inr, ◌⊎◌, arith, length-append, append_assoc}
use Rattle.std.specs.Prelude.{ℤ, pos, filter, slice_get, is_some, is_none, count_by}
use Rattle.std.specs.List.{enumerate_from, list_all, Contains}
use Rattle.std.specs.Option.{option_map, option_or, unwrap_or}
use Rattle.std.proofs.lemmas.Bool.Decides.{eqb_tells, leb_tells}
use Rattle.std.proofs.lemmas.List.Elements.{All-from_recursion, recursion_from_All}
use Rattle.std.proofs.lemmas.List.Sums.{sum_by-cons}
use Rattle.std.proofs.lemmas.Option.{same_Some, slice_get_within}
use Rattle.lls_lit.specs.Formula.{Clause}
use Rattle.lls_prooflog.specs.declared.step.Step.{Step}
use Rattle.lls_prooflog.specs.declared.step.Step.TheVariants.{Add, Del}
use Rattle.lls_prooflog.specs.declared.step_fault.StepFault.TheVariants.{IdLive}
use Rattle.lls_prooflog.specs.Steps.{Live, numbered, find_clause, unit_walk, after, is_empty_addition, are_accepted}
use Rattle.lls_prooflog.specs.Spent.{LogState, log_after, EachStep, IsGood, AddsByPropagation, is_addition, is_positive}
use Rattle.lls_prooflog.proofs.Soundness.{good_by_propagation}
use Rattle.lls_trim.specs.declared.source.Source.{Source}
use Rattle.lls_trim.specs.declared.source.Source.TheVariants.{Given, Added}
use Rattle.lls_trim.specs.Placed.{Placed, steps_in}
use Rattle.lls_trim.specs.Inferences.{Inference, Before, behind, inference_at, inferences_from}
use Rattle.lls_trim.specs.Needed.{sources_in, sources_at, IsNeeded, source, NeedsNoRat}
use Rattle.lls_trim.specs.Trimmed.{is_marked, new_id, new_hint, new_step, AreMarked}
use Rattle.lls_trim.specs.Marking.{IsBelow, AreOrdered, IsGivenWithin, AreGivenWithin}
use Rattle.lls_trim.specs.Kept.{IsSublist, nothing, keeps, skips, clauses_added, EndsEmpty}
use Rattle.lls_trim.proofs.Walks.{Finds, found_closes}
use Rattle.lls_trim.proofs.Founded.{source_clause, AreClauses, RestsOn, FoundedBy, AreFounded, EndsAt, LastIsEmpty, find_clause-append, slice_get-last}
use Rattle.lls_trim.proofs.Renumbered.{written_at, new_id-marked, new_id-passed}

-- the additions among these sources are marked
abbrev pub AllMarked : List Bool → List Source → Type 0
AllMarked marks [] = Unit {0}
AllMarked marks (Given id ∷ ss) = AllMarked marks ss
AllMarked marks (Added j ∷ ss) = (is_marked marks j ≡ true) × AllMarked marks ss

-- a marked addition is by unit propagation, from marked ones
pub record IsClosed (marks : List Bool) (i : Inference) : Type 0 where
  pub sources : List Source
  pub by : i.by ≡ Some sources
  pub marked : AllMarked marks sources

all_marked : (marks : List Bool) (ss : List Source) → ((j : ℕ) → Contains ss (Added j) → is_marked marks j ≡ true) → AllMarked marks ss
all_marked marks [] each = tt
all_marked marks (Given id ∷ ss) each = all_marked marks ss (λ j c. each j (suc c.0, omega (arith, c.1), c.2))
all_marked marks (Added k ∷ ss) each = (each k (0, omega arith, refl), all_marked marks ss (λ j c. each j (suc c.0, omega (arith, c.1), c.2)))

pub closed_at : (inferences : List Inference) (marks : List Bool) → AreMarked inferences marks → NeedsNoRat inferences → (k : ℕ) (i : Inference) → slice_get inferences k ≡ Some i → is_marked marks k ≡ true → IsClosed marks i
closed_at inferences marks m none k i there e = by_cases i.by refl where
  needed : IsNeeded inferences k
  needed = (m.needed k).0 e

  by_cases : (o : Option (List Source)) → i.by ≡ o → IsClosed marks i
  by_cases None is = absurd (none k i.line (record { needed = needed; inference = i; there = there; on_line = refl; not_by = is }))
  by_cases (Some ss) is =
      let sources_are : ss ≡ sources_at inferences k = sym (ap sources_in there ∙ ap (λ o. unwrap_or o []) is) in
      record {
        sources = ss;
        by = is;
        marked = all_marked marks ss (λ j c. (m.needed j).1 (source k j needed (subst (λ (xs : List Source). Contains xs (Added j)) sources_are c)));
      }

-- ids beyond the formula's clauses find none, nor does 0
above_numbered : (n id : ℕ) (clauses : List Clause) → n + length clauses ≤ id → find_clause (enumerate_from n clauses) id ≡ None
above_numbered n id [] le = refl
above_numbered n id (c ∷ cs) le = elim (eqb_tells n id) [
  | inl t ↦ absurd (omega (arith, t.1, le))
  | inr t ↦ ap (λ b. cond b (Some c) (find_clause (enumerate_from (n + 1) cs) id)) t.0 ∙ above_numbered (n + 1) id cs (omega (arith, le))
]

below_numbered : (n id : ℕ) (clauses : List Clause) → id < n → find_clause (enumerate_from n clauses) id ≡ None
below_numbered n id [] lt = refl
below_numbered n id (c ∷ cs) lt = elim (eqb_tells n id) [
  | inl t ↦ absurd (omega (arith, t.1, lt))
  | inr t ↦ ap (λ b. cond b (Some c) (find_clause (enumerate_from (n + 1) cs) id)) t.0 ∙ below_numbered (n + 1) id cs (omega (arith, lt))
]

nat_cases : (n id : ℕ) → (id ≤ n) ⊎ (n < id)
nat_cases n id = elim (leb_tells id n) [ inl t ↦ inl t.1 | inr t ↦ inr t.1 ]

pub given_within : (clauses : List Clause) (id : ℕ) (clause : Clause) → find_clause (numbered clauses) id ≡ Some clause → (1 ≤ id) × (id ≤ length clauses)
given_within clauses id clause e = (
  elim (eqb_tells id 0) [
    | inl t ↦ let clash : None ≡ Some clause = sym (below_numbered 1 id clauses (omega (arith, t.1))) ∙ e in absurd cc
    | inr t ↦ omega (arith, t.1)
  ],
  elim (nat_cases (length clauses) id) [
    | inl le ↦ le
    | inr lt ↦ let clash : None ≡ Some clause = sym (above_numbered 1 id clauses (omega (arith, lt))) ∙ e in absurd cc
  ],
)

find_more : (live more : Live) (id : ℕ) (clause : Clause) → find_clause live id ≡ Some clause → find_clause (live ++ more) id ≡ Some clause
find_more live more id clause e = find_clause-append live more id ∙ ap (λ o. option_or o (find_clause more id)) e

find_behind : (live : Live) (id : ℕ) (clause : Clause) → find_clause live id ≡ None → find_clause (live ++ (id, clause) ∷ []) id ≡ Some clause
find_behind live id clause e = find_clause-append live ((id, clause) ∷ []) id ∙ ap (λ o. option_or o (find_clause ((id, clause) ∷ []) id)) e ∙ elim (eqb_tells id id) [
  | inl t ↦ ap (λ b. cond b (Some clause) None) t.0
  | inr t ↦ absurd (t.1 refl)
]

find_none : (live : Live) (id other : ℕ) (clause : Clause) → find_clause live other ≡ None → (id ≡ other → ⊥) → find_clause (live ++ (id, clause) ∷ []) other ≡ None
find_none live id other clause e apart = find_clause-append live ((id, clause) ∷ []) other ∙ ap (λ o. option_or o (find_clause ((id, clause) ∷ []) other)) e ∙ elim (eqb_tells id other) [
  | inl t ↦ absurd (apart t.1)
  | inr t ↦ ap (λ b. cond b (Some clause) None) t.0
]

-- the last of some elements, or one before it
pub last_or : {X : Type 0} (xs : List X) (x y : X) (k : ℕ) → slice_get (xs ++ x ∷ []) k ≡ Some y → (slice_get xs k ≡ Some y) ⊎ ((k ≡ length xs) × (x ≡ y))
last_or [] x y zero e = inr (refl, same_Some x y e)
last_or [] x y (suc k) e = absurd cc
last_or (z ∷ xs) x y zero e = inl e
last_or (z ∷ xs) x y (suc k) e = elim (last_or xs x y k e) [
  | inl t ↦ inl t
  | inr t ↦ inr (ap suc t.0, t.1)
]

-- what the live clauses of the new proof are, behind the marked ones of these additions
pub record HoldsKept (clauses : List Clause) (marks : List Bool) (done : List Inference) (live : Live) : Type 0 where
  pub given : (id : ℕ) (clause : Clause) → find_clause (numbered clauses) id ≡ Some clause → find_clause live id ≡ Some clause
  pub added : (j : ℕ) (i : Inference) → slice_get done j ≡ Some i → is_marked marks j ≡ true → find_clause live (new_id (length clauses) marks j) ≡ Some i.clause
  pub fresh : (id : ℕ) → new_id (length clauses) marks (length done) ≤ id → find_clause live id ≡ None

pub kept-start : (clauses : List Clause) (marks : List Bool) → HoldsKept clauses marks [] (numbered clauses)
kept-start clauses marks = record {
  given = λ id clause e. e;
  added = λ j i e m. absurd cc;
  fresh = λ id le. above_numbered 1 id clauses (omega (arith, le));
}

module _ (clauses : List Clause) (marks : List Bool) (done : List Inference) (live : Live) (h : HoldsKept clauses marks done live) (i : Inference) (lt : length done < length marks) where
  more_done : length (done ++ i ∷ []) ≡ length done + 1
  more_done = omega (arith, length-append done (i ∷ []))

  pub kept-marked : is_marked marks (length done) ≡ true → HoldsKept clauses marks (done ++ i ∷ []) (live ++ (new_id (length clauses) marks (length done), i.clause) ∷ [])
  kept-marked e = record {
    given = λ id clause f. find_more live _ id clause (h.given id clause f);
    added = λ j x f m. elim (last_or done i x j f) [
      | inl t ↦ find_more live _ (new_id (length clauses) marks j) x.clause (h.added j x t m)
      | inr t ↦
          ap (λ (n : ℕ). find_clause (live ++ (new_id (length clauses) marks (length done), i.clause) ∷ []) (new_id (length clauses) marks n)) t.0
          ∙ find_behind live (new_id (length clauses) marks (length done)) i.clause (h.fresh (new_id (length clauses) marks (length done)) (omega arith))
          ∙ ap (λ (y : Inference). Some y.clause) t.1
    ];
    fresh = λ id le.
        let next : new_id (length clauses) marks (length done) + 1 ≤ id = omega (arith, le, ap (new_id (length clauses) marks) more_done, new_id-marked (length clauses) marks (length done) lt e) in
        find_none live (new_id (length clauses) marks (length done)) id i.clause (h.fresh id (omega (arith, next))) (λ same. absurd (omega (arith, same, next)));
  }

  pub kept-passed : is_marked marks (length done) ≡ false → HoldsKept clauses marks (done ++ i ∷ []) live
  kept-passed e = record {
    given = h.given;
    added = λ j x f m. elim (last_or done i x j f) [
      | inl t ↦ h.added j x t m
      | inr t ↦ let clash : true ≡ false = sym m ∙ ap (is_marked marks) t.0 ∙ e in absurd cc
    ];
    fresh = λ id le. h.fresh id (omega (arith, le, ap (new_id (length clauses) marks) more_done, new_id-passed (length clauses) marks (length done) lt e));
  }

-- the clause of an addition among those before
pub inference_of : (done : List Inference) (j : ℕ) (clause : Clause) → option_map (λ (i : Inference). i.clause) (slice_get done j) ≡ Some clause → (i : Inference) × ((slice_get done j ≡ Some i) × (i.clause ≡ clause))
inference_of done j clause e =
    elim (slice_get done j) as (λ o. slice_get done j ≡ o → option_map (λ (i : Inference). i.clause) o ≡ Some clause → (i : Inference) × ((slice_get done j ≡ Some i) × (i.clause ≡ clause))) [
      | None ↦ λ _ h. absurd cc
      | Some i ↦ λ is h. (i, (is, same_Some i.clause clause h))
    ] refl e

-- the new hints find the clauses that the sources are
pub new_hints_find : (clauses : List Clause) (marks : List Bool) (done : List Inference) (live : Live) → HoldsKept clauses marks done live → (ss : List Source) (cs : List Clause) → AreClauses clauses done ss cs → AllMarked marks ss → Finds live (map (new_hint (length clauses) marks) ss) cs
new_hints_find clauses marks done live h [] [] are m = tt
new_hints_find clauses marks done live h [] (c ∷ cs) are m = absurd are
new_hints_find clauses marks done live h (s ∷ ss) [] are m = absurd are
new_hints_find clauses marks done live h (Given id ∷ ss) (c ∷ cs) are m = (h.given id c are.0, new_hints_find clauses marks done live h ss cs are.1 m)
new_hints_find clauses marks done live h (Added j ∷ ss) (c ∷ cs) are m =
    let i = inference_of done j c are.0 in
    (h.added j i.0 i.1.0 m.0 ∙ ap (λ (x : Clause). Some x) i.1.1, new_hints_find clauses marks done live h ss cs are.1 m.1)

positive_from : (n : ℕ) → 1 ≤ n → is_positive (pos n) ≡ true
positive_from zero le = absurd (omega arith)
positive_from (suc n) le = refl

new_hints_positive : (clauses : List Clause) (marks : List Bool) (done : List Inference) (ss : List Source) (cs : List Clause) → AreClauses clauses done ss cs → list_all is_positive (map (new_hint (length clauses) marks) ss) ≡ true
new_hints_positive clauses marks done [] cs are = refl
new_hints_positive clauses marks done (s ∷ ss) [] are = absurd are
new_hints_positive clauses marks done (Given id ∷ ss) (c ∷ cs) are = rw (positive_from id (given_within clauses id c are.0).0) (new_hints_positive clauses marks done ss cs are.1)
new_hints_positive clauses marks done (Added j ∷ ss) (c ∷ cs) are = rw (positive_from (new_id (length clauses) marks j) (omega arith)) (new_hints_positive clauses marks done ss cs are.1)

-- a marked addition is good by unit propagation in its new place
kept_adds : (clauses : List Clause) (marks : List Bool) (done : List Inference) (live : Live) → HoldsKept clauses marks done live → (i : Inference) → FoundedBy clauses done i.clause i.by → IsClosed marks i
    → AddsByPropagation live (new_id (length clauses) marks (length done)) i.clause (map (new_hint (length clauses) marks) (unwrap_or i.by []))
kept_adds clauses marks done live h i founded closed =
    let rests : RestsOn clauses done i.clause closed.sources = subst (FoundedBy clauses done i.clause) closed.by founded in
    let hints = map (new_hint (length clauses) marks) closed.sources in
    let found = new_hints_find clauses marks done live h closed.sources rests.named rests.are closed.marked in
    let id = new_id (length clauses) marks (length done) in
    let adds : AddsByPropagation live id i.clause hints = record {
      positive = new_hints_positive clauses marks done closed.sources rests.named rests.are;
      good =
          ap (λ o. cond (is_some o) (Some (IdLive id)) (unit_walk live i.clause hints)) (h.fresh id (omega arith))
          ∙ found_closes live i.clause hints rests.named found rests.closes;
    } in
    subst (λ o. AddsByPropagation live id i.clause (map (new_hint (length clauses) marks) (unwrap_or o []))) (sym closed.by) adds

-- a good step that isn't empty, before accepted ones, or an empty one before none
accepted_more : (live : Live) (id : ℕ) (lits : Clause) (hints : List ℤ) (steps : List Step) → AddsByPropagation live id lits hints → are_accepted (after live (Add id lits hints)) steps ≡ true → are_accepted live (Add id lits hints ∷ steps) ≡ true
accepted_more live id lits hints steps adds e = ap (λ o. cond (is_none o) (is_empty_addition (Add id lits hints) || are_accepted (after live (Add id lits hints)) steps) false) (good_by_propagation live id lits hints adds.good) ∙ or_right (is_empty_addition (Add id lits hints)) (are_accepted (after live (Add id lits hints)) steps) e where
  or_right : (a b : Bool) → b ≡ true → (a || b) ≡ true
  or_right true b e = refl
  or_right false b e = e

accepted_empty : (live : Live) (id : ℕ) (hints : List ℤ) → AddsByPropagation live id [] hints → are_accepted live (Add id [] hints ∷ []) ≡ true
accepted_empty live id hints adds = ap (λ o. cond (is_none o) true false) (good_by_propagation live id [] hints adds.good)

-- what holds of the new steps
pub record KeepsWell (state : LogState) (steps : List Step) : Type 0 where
  pub good : EachStep IsGood state steps
  pub accepted : are_accepted state.live steps ≡ true
  pub additions : list_all is_addition steps ≡ true
  pub ends_empty : EndsEmpty steps

well_next : (state : LogState) (id : ℕ) (l : ℤ) (ls : Clause) (hints : List ℤ) (steps : List Step) → AddsByPropagation state.live id (l ∷ ls) hints → KeepsWell (log_after state (Add id (l ∷ ls) hints)) steps → KeepsWell state (Add id (l ∷ ls) hints ∷ steps)
well_next state id l ls hints steps adds w = record {
  good = (adds, w.good);
  accepted = accepted_more state.live id (l ∷ ls) hints steps adds w.accepted;
  additions = w.additions;
  ends_empty = record {
    front = Add id (l ∷ ls) hints ∷ w.ends_empty.front;
    last = w.ends_empty.last;
    whole = ap (λ (ss : List Step). Add id (l ∷ ls) hints ∷ ss) w.ends_empty.whole;
    empty = w.ends_empty.empty;
    none_before = w.ends_empty.none_before;
  };
}

well_last : (state : LogState) (id : ℕ) (hints : List ℤ) → AddsByPropagation state.live id [] hints → KeepsWell state (Add id [] hints ∷ [])
well_last state id hints adds = record {
  good = (adds, tt);
  accepted = accepted_empty state.live id hints adds;
  additions = refl;
  ends_empty = record { front = []; last = Add id [] hints; whole = refl; empty = refl; none_before = refl };
}

module _ (clauses : List Clause) (marks : List Bool) (inferences : List Inference) (as_many : length marks ≡ length inferences) (closed : (k : ℕ) (i : Inference) → slice_get inferences k ≡ Some i → is_marked marks k ≡ true → IsClosed marks i) (ended : (k : ℕ) → k + 1 ≡ length inferences → is_marked marks k ≡ true) where
  -- the next addition is written down
  written_one : (k : ℕ) (i : Inference) (rest : List Inference) → is_marked marks k ≡ true → written_at (length clauses) marks (enumerate_from k (i ∷ rest)) ≡ new_step (length clauses) marks (k, i) ∷ written_at (length clauses) marks (enumerate_from (k + 1) rest)
  written_one k i rest e = ap (λ b. map (new_step (length clauses) marks) (cond b ((k, i) ∷ filter (λ pair. is_marked marks pair.0) (enumerate_from (k + 1) rest)) (filter (λ pair. is_marked marks pair.0) (enumerate_from (k + 1) rest)))) e

  -- or passed over
  written_none : (k : ℕ) (i : Inference) (rest : List Inference) → is_marked marks k ≡ false → written_at (length clauses) marks (enumerate_from k (i ∷ rest)) ≡ written_at (length clauses) marks (enumerate_from (k + 1) rest)
  written_none k i rest e = ap (λ b. map (new_step (length clauses) marks) (cond b ((k, i) ∷ filter (λ pair. is_marked marks pair.0) (enumerate_from (k + 1) rest)) (filter (λ pair. is_marked marks pair.0) (enumerate_from (k + 1) rest)))) e

  -- what follows behind some additions is kept well
  abbrev KeepsRest : List Inference → LogState → List Inference → Type 0
  KeepsRest done state rest = KeepsWell state (written_at (length clauses) marks (enumerate_from (length done) rest))

  at_empty : (done rest : List Inference) (i : Inference) (state : LogState) (clause : Clause) → i.clause ≡ clause → clause ≡ [] → done ++ i ∷ rest ≡ inferences → rest ≡ [] → is_marked marks (length done) ≡ true → AddsByPropagation state.live (new_id (length clauses) marks (length done)) i.clause (map (new_hint (length clauses) marks) (unwrap_or i.by [])) → KeepsRest done state (i ∷ rest)
  at_empty done rest i state clause is empty all none e adds =
      let id = new_id (length clauses) marks (length done) in
      let hints = map (new_hint (length clauses) marks) (unwrap_or i.by []) in
      let no_clause = is ∙ empty in
      let well = well_last state id hints (subst (λ (c : Clause). AddsByPropagation state.live id c hints) no_clause adds) in
      let same : written_at (length clauses) marks (enumerate_from (length done) (i ∷ rest)) ≡ Add id [] hints ∷ [] =
      written_one (length done) i rest e ∙ ap (λ (is : List Inference). Add id i.clause hints ∷ written_at (length clauses) marks (enumerate_from (length done + 1) is)) none ∙ ap (λ (c : Clause). Add id c hints ∷ []) no_clause
      in subst (KeepsWell state) (sym same) well

  at_next : (done rest : List Inference) (i : Inference) (state : LogState) (l : ℤ) (ls : Clause) → i.clause ≡ l ∷ ls → is_marked marks (length done) ≡ true → AddsByPropagation state.live (new_id (length clauses) marks (length done)) i.clause (map (new_hint (length clauses) marks) (unwrap_or i.by []))
      → KeepsRest (done ++ i ∷ []) (log_after state (Add (new_id (length clauses) marks (length done)) i.clause (map (new_hint (length clauses) marks) (unwrap_or i.by [])))) rest → KeepsRest done state (i ∷ rest)
  at_next done rest i state l ls is e adds more =
      let id = new_id (length clauses) marks (length done) in
      let hints = map (new_hint (length clauses) marks) (unwrap_or i.by []) in
      let steps = written_at (length clauses) marks (enumerate_from (length done + 1) rest) in
      let longer : length (done ++ i ∷ []) ≡ length done + 1 = omega (arith, length-append done (i ∷ [])) in
      let behind_it = subst (λ (n : ℕ). KeepsWell (log_after state (Add id i.clause hints)) (written_at (length clauses) marks (enumerate_from n rest))) longer more in
      let well = well_next state id l ls hints steps (subst (λ (c : Clause). AddsByPropagation state.live id c hints) is adds) (subst (λ (c : Clause). KeepsWell (log_after state (Add id c hints)) steps) is behind_it) in
      let same : written_at (length clauses) marks (enumerate_from (length done) (i ∷ rest)) ≡ Add id (l ∷ ls) hints ∷ steps = written_one (length done) i rest e ∙ ap (λ (c : Clause). Add id c hints ∷ steps) is in
      subst (KeepsWell state) (sym same) well

  at_passed : (done rest : List Inference) (i : Inference) (state : LogState) → is_marked marks (length done) ≡ false → KeepsRest (done ++ i ∷ []) state rest → KeepsRest done state (i ∷ rest)
  at_passed done rest i state e more =
      let longer : length (done ++ i ∷ []) ≡ length done + 1 = omega (arith, length-append done (i ∷ [])) in
      subst (KeepsWell state) (ap (λ (n : ℕ). written_at (length clauses) marks (enumerate_from n rest)) longer ∙ sym (written_none (length done) i rest e)) more

  at_one : (done rest : List Inference) (i : Inference) (state : LogState) → done ++ i ∷ rest ≡ inferences → HoldsKept clauses marks done state.live → FoundedBy clauses done i.clause i.by
      → (clause : Clause) → i.clause ≡ clause → EndsAt clause (rest ≡ []) (LastIsEmpty rest)
      → (LastIsEmpty rest → (state2 : LogState) → HoldsKept clauses marks (done ++ i ∷ []) state2.live → KeepsRest (done ++ i ∷ []) state2 rest) → KeepsRest done state (i ∷ rest)
  at_one done rest i state all h founded [] is ends next =
      let lens : length done + 1 ≡ length inferences = omega (arith, ap length all, length-append done (i ∷ rest), ap length ends) in
      let there : slice_get inferences (length done) ≡ Some i = ap (λ (is : List Inference). slice_get is (length done)) (sym all) ∙ slice_get-last done rest i in
      let e = ended (length done) lens in
      at_empty done rest i state [] is refl all ends e (kept_adds clauses marks done state.live h i founded (closed (length done) i there e))
  at_one done rest i state all h founded (l ∷ ls) is ends next =
      let lt : length done < length marks = omega (arith, ap length all, length-append done (i ∷ rest), as_many) in
      let there : slice_get inferences (length done) ≡ Some i = ap (λ (is : List Inference). slice_get is (length done)) (sym all) ∙ slice_get-last done rest i in
      elim (is_marked marks (length done)) as (λ b. is_marked marks (length done) ≡ b → KeepsRest done state (i ∷ rest)) [
        | true ↦ λ e.
            let adds = kept_adds clauses marks done state.live h i founded (closed (length done) i there e) in
            at_next done rest i state l ls is e adds (next ends (log_after state (Add (new_id (length clauses) marks (length done)) i.clause (map (new_hint (length clauses) marks) (unwrap_or i.by [])))) (kept-marked clauses marks done state.live h i lt e))
        | false ↦ λ e. at_passed done rest i state e (next ends state (kept-passed clauses marks done state.live h i lt e))
      ] refl

  -- all marked additions are kept well
  pub kept_well : (rest done : List Inference) (state : LogState) → done ++ rest ≡ inferences → HoldsKept clauses marks done state.live → AreFounded clauses done rest → LastIsEmpty rest → KeepsRest done state rest
  kept_well [] done state all h founded ends = absurd ends
  kept_well (i ∷ rest) done state all h founded ends =
      at_one done rest i state all h founded.0 i.clause refl ends (λ ends2 state2 h2. kept_well rest (done ++ i ∷ []) state2 (append_assoc done (i ∷ []) rest ∙ all) h2 founded.1 ends2)

none_sublist : {X : Type 0} (xs : List X) → IsSublist [] xs
none_sublist [] = nothing
none_sublist (x ∷ xs) = skips x [] xs (none_sublist xs)

-- the clauses that are written down are some of those that the steps add
pub kept_sublist : (given : ℕ) (marks : List Bool) (placed : Placed) (before : Before) (k : ℕ) → IsSublist (clauses_added (written_at given marks (enumerate_from k (inferences_from before placed)))) (clauses_added (steps_in placed))
kept_sublist given marks [] before k = nothing
kept_sublist given marks ((line, Add id [] hints) ∷ rest) before k =
    let i = inference_at before line [] hints in
    elim (is_marked marks k) as (λ b. IsSublist (clauses_added (map (new_step given marks) (cond b ((k, i) ∷ []) []))) ([] ∷ clauses_added (steps_in rest))) [
      | true ↦ keeps [] [] (clauses_added (steps_in rest)) (none_sublist (clauses_added (steps_in rest)))
      | false ↦ skips [] [] (clauses_added (steps_in rest)) (none_sublist (clauses_added (steps_in rest)))
    ]
kept_sublist given marks ((line, Add id (l ∷ ls) hints) ∷ rest) before k =
    let i = inference_at before line (l ∷ ls) hints in
    let next = behind before (Add id (l ∷ ls) hints) in
    let kept = filter (λ pair. is_marked marks pair.0) (enumerate_from (k + 1) (inferences_from next rest)) in
    let more = kept_sublist given marks rest next (k + 1) in
    elim (is_marked marks k) as (λ b. IsSublist (clauses_added (map (new_step given marks) (cond b ((k, i) ∷ kept) kept))) ((l ∷ ls) ∷ clauses_added (steps_in rest))) [
      | true ↦ keeps (l ∷ ls) (clauses_added (map (new_step given marks) kept)) (clauses_added (steps_in rest)) more
      | false ↦ skips (l ∷ ls) (clauses_added (map (new_step given marks) kept)) (clauses_added (steps_in rest)) more
    ]
kept_sublist given marks ((line, Del ids) ∷ rest) before k = kept_sublist given marks rest (behind before (Del ids)) k

-- up to the first empty one there are no more additions than in all
pub inferences_fewer : (placed : Placed) (before : Before) → length (inferences_from before placed) ≤ count_by is_addition (steps_in placed)
inferences_fewer [] before = omega arith
inferences_fewer ((line, Add id [] hints) ∷ rest) before = omega (arith, sum_by-cons (λ step. cond (is_addition step) 1 0) (Add id [] hints) (steps_in rest))
inferences_fewer ((line, Add id (l ∷ ls) hints) ∷ rest) before =
    omega (arith, sum_by-cons (λ step. cond (is_addition step) 1 0) (Add id (l ∷ ls) hints) (steps_in rest), inferences_fewer rest (behind before (Add id (l ∷ ls) hints)))
inferences_fewer ((line, Del ids) ∷ rest) before =
    omega (arith, sum_by-cons (λ step. cond (is_addition step) 1 0) (Del ids) (steps_in rest), inferences_fewer rest (behind before (Del ids)))

-- what the sources of founded additions are
below_named : (clauses : List Clause) (done : List Inference) (ss : List Source) (cs : List Clause) → AreClauses clauses done ss cs → All (IsBelow (length done)) ss
below_named clauses done [] cs are = All-from_recursion (IsBelow (length done)) [] tt
below_named clauses done (s ∷ ss) [] are = absurd are
below_named clauses done (s ∷ ss) (c ∷ cs) are = All-from_recursion (IsBelow (length done)) (s ∷ ss) (one s are.0, recursion_from_All (IsBelow (length done)) ss (below_named clauses done ss cs are.1)) where
  one : (t : Source) → source_clause clauses done t ≡ Some c → IsBelow (length done) t
  one (Given id) e = tt
  one (Added j) e = let i = inference_of done j c e in slice_get_within done j i.0 i.1.0

given_named : (clauses : List Clause) (done : List Inference) (ss : List Source) (cs : List Clause) → AreClauses clauses done ss cs → All (IsGivenWithin (length clauses)) ss
given_named clauses done [] cs are = All-from_recursion (IsGivenWithin (length clauses)) [] tt
given_named clauses done (s ∷ ss) [] are = absurd are
given_named clauses done (s ∷ ss) (c ∷ cs) are = All-from_recursion (IsGivenWithin (length clauses)) (s ∷ ss) (one s are.0, recursion_from_All (IsGivenWithin (length clauses)) ss (given_named clauses done ss cs are.1)) where
  one : (t : Source) → source_clause clauses done t ≡ Some c → IsGivenWithin (length clauses) t
  one (Given id) e = given_within clauses id c e
  one (Added j) e = tt

ordered_by : (clauses : List Clause) (done : List Inference) (clause : Clause) (by : Option (List Source)) → FoundedBy clauses done clause by → All (IsBelow (length done)) (unwrap_or by [])
ordered_by clauses done clause None f = All-from_recursion (IsBelow (length done)) [] tt
ordered_by clauses done clause (Some ss) f = below_named clauses done ss f.named f.are

given_by : (clauses : List Clause) (done : List Inference) (clause : Clause) (by : Option (List Source)) → FoundedBy clauses done clause by → All (IsGivenWithin (length clauses)) (unwrap_or by [])
given_by clauses done clause None f = All-from_recursion (IsGivenWithin (length clauses)) [] tt
given_by clauses done clause (Some ss) f = given_named clauses done ss f.named f.are

ordered_from : (clauses : List Clause) (rest done : List Inference) → AreFounded clauses done rest → (k : ℕ) → All (IsBelow (length done + k)) (sources_at rest k)
ordered_from clauses [] done f k = All-from_recursion (IsBelow (length done + k)) [] tt
ordered_from clauses (i ∷ rest) done f zero = let same : length done + 0 ≡ length done = omega arith in rw same (ordered_by clauses done i.clause i.by f.0)
ordered_from clauses (i ∷ rest) done f (suc k) =
    let same : length (done ++ i ∷ []) + k ≡ length done + suc k = omega (arith, length-append done (i ∷ [])) in
    subst (λ (n : ℕ). All (IsBelow n) (sources_at rest k)) same (ordered_from clauses rest (done ++ i ∷ []) f.1 k)

pub ordered_founded : (clauses : List Clause) (inferences : List Inference) → AreFounded clauses [] inferences → AreOrdered inferences
ordered_founded clauses inferences f k = let same : 0 + k ≡ k = omega arith in subst (λ (n : ℕ). All (IsBelow n) (sources_at inferences k)) same (ordered_from clauses inferences [] f k)

given_from : (clauses : List Clause) (rest done : List Inference) → AreFounded clauses done rest → (k : ℕ) → All (IsGivenWithin (length clauses)) (sources_at rest k)
given_from clauses [] done f k = All-from_recursion (IsGivenWithin (length clauses)) [] tt
given_from clauses (i ∷ rest) done f zero = given_by clauses done i.clause i.by f.0
given_from clauses (i ∷ rest) done f (suc k) = given_from clauses rest (done ++ i ∷ []) f.1 k

pub given_founded : (clauses : List Clause) (inferences : List Inference) → AreFounded clauses [] inferences → AreGivenWithin (length clauses) inferences
given_founded clauses inferences f k = given_from clauses inferences [] f k

pub some_inference : (inferences : List Inference) → LastIsEmpty inferences → 0 < length inferences
some_inference [] e = absurd e
some_inference (i ∷ is) e = omega arith
