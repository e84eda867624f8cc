-- Marked additions that are numbered anew, one after another.
use Rattle.std.proofs.Common.{◌≡◌, ℕ, zero, suc, ◌+◌, ◌<◌, ◌≤◌, Bool, true, false, List, [], ◌∷◌, ◌++◌, All, length, get_or, take, map, Some, refl, sym, ap, ◌∙◌, subst, inl, inr, arith, length-append, append-nil}
use Rattle.std.specs.Prelude.{ℤ, pos, filter, slice_get, slice_index}
use Rattle.std.specs.List.{enumerate_from, list_all}
use Rattle.std.specs.Option.{unwrap_or}
use Rattle.std.proofs.lemmas.Bool.{le-leb}
use Rattle.std.proofs.lemmas.Bool.Decides.{eqb_tells}
use Rattle.std.proofs.lemmas.List.{length-map, map-append}
use Rattle.std.proofs.lemmas.List.Elements.{filter-append, All-from_recursion, recursion_from_All}
use Rattle.std.proofs.lemmas.List.Sums.{count_by_more_yes, count_by_more_no, count_by-le-length, length-filter}
use Rattle.std.proofs.lemmas.List.FromFn.{length-enumerate_from}
use Rattle.lls_prooflog.specs.declared.step.Step.{Step}
use Rattle.lls_prooflog.specs.declared.step.Step.TheVariants.{Add}
use Rattle.std.proofs.lemmas.Grind.{get_or_default_zero}
use Rattle.lls_cnf.specs.declared.formula.TheConstants.Formula.{MOST_CLAUSES}
use Rattle.lls_prooflog.specs.declared.step.TheConstants.Step.{MOST_ID}
use Rattle.lls_trim.specs.declared.inferences.TheConstants.Inferences.{MOST}
use Rattle.lls_prooflog.specs.Range.{is_id, is_hint, IsInRange}
use Rattle.lls_trim.specs.declared.source.Source.{Source}
use Rattle.lls_trim.specs.declared.source.Source.TheVariants.{Given, Added}
use Rattle.lls_trim.specs.Inferences.{Inference}
use Rattle.lls_trim.specs.Needed.{sources_in}
use Rattle.lls_trim.specs.Trimmed.{is_marked, new_id, new_hint, new_step, renumbered}
use Rattle.lls_trim.specs.Marking.{IsBelow, IsGivenWithin, AreGivenWithin, hint_by}
use Rattle.lls_trim.proofs.Buffers.{take-next}

-- the first so many additions are written down, and their ids listed
pub record IsRenumbering (given : ℕ) (marks : List Bool) (inferences : List Inference) (place : ℕ) (ids : List ℕ) (next : ℕ) (steps : List Step) : Type 0 where
  pub listed : length ids ≡ place
  pub ids_are : (k : ℕ) → k < place → slice_index ids k ≡ new_id given marks k
  pub next_is : next ≡ new_id given marks place
  pub written : steps ≡ map (new_step given marks) (filter (λ pair. is_marked marks pair.0) (enumerate_from 0 (take place inferences)))

enumerate-push : {X : Type 0} (n : ℕ) (xs : List X) (x : X) → enumerate_from n (xs ++ x ∷ []) ≡ enumerate_from n xs ++ (n + length xs, x) ∷ []
enumerate-push n [] x = let e : n ≡ n + 0 = omega arith in ap (λ (k : ℕ). (k, x) ∷ []) e
enumerate-push n (y ∷ ys) x = let e : n + 1 + length ys ≡ n + suc (length ys) = omega arith in ap (λ (ps : List (ℕ × _)). (n, y) ∷ ps) (enumerate-push (n + 1) ys x ∙ ap (λ (k : ℕ). enumerate_from (n + 1) ys ++ (k, x) ∷ []) e)

length-take-within : {X : Type 0} (xs : List X) (n : ℕ) → n ≤ length xs → length (take n xs) ≡ n
length-take-within xs zero le = refl
length-take-within [] (suc n) le = absurd (omega arith)
length-take-within (x ∷ xs) (suc n) le = ap suc (length-take-within xs n (omega arith))

abbrev pub written_at : ℕ → List Bool → List (ℕ × Inference) → List Step
written_at given marks pairs = map (new_step given marks) (filter (λ pair. is_marked marks pair.0) pairs)

-- no more steps are written down than there are additions
pub length-renumbered-le : (given : ℕ) (marks : List Bool) (inferences : List Inference) → length (renumbered given marks inferences) ≤ length inferences
length-renumbered-le given marks inferences =
    let pairs : List (ℕ × Inference) = enumerate_from 0 inferences in
    let test = λ (pair : ℕ × Inference). is_marked marks pair.0 in
    omega (arith, length-map (filter test pairs) (new_step given marks), length-filter test pairs, count_by-le-length test pairs, length-enumerate_from 0 inferences)

written-append : (given : ℕ) (marks : List Bool) (pairs more : List (ℕ × Inference)) → written_at given marks (pairs ++ more) ≡ written_at given marks pairs ++ written_at given marks more
written-append given marks pairs more = ap (map (new_step given marks)) (filter-append (λ pair. is_marked marks pair.0) pairs more) ∙ map-append (new_step given marks) (filter (λ pair. is_marked marks pair.0) pairs) (filter (λ pair. is_marked marks pair.0) more)

written-next : (given : ℕ) (marks : List Bool) (inferences : List Inference) (k : ℕ) (i : Inference) → slice_get inferences k ≡ Some i → k < length inferences
    → written_at given marks (enumerate_from 0 (take (k + 1) inferences)) ≡ written_at given marks (enumerate_from 0 (take k inferences)) ++ written_at given marks ((k, i) ∷ [])
written-next given marks inferences k i e lt =
    let at : 0 + length (take k inferences) ≡ k = omega (arith, length-take-within inferences k (omega arith)) in
    ap (λ (is : List Inference). written_at given marks (enumerate_from 0 is)) (take-next inferences k i e)
    ∙ ap (written_at given marks) (enumerate-push 0 (take k inferences) i ∙ ap (λ (n : ℕ). enumerate_from 0 (take k inferences) ++ (n, i) ∷ []) at)
    ∙ written-append given marks (enumerate_from 0 (take k inferences)) ((k, i) ∷ [])

index-push : (xs : List ℕ) (x k : ℕ) → k < length xs → slice_index (xs ++ x ∷ []) k ≡ slice_index xs k
index-push [] x k lt = absurd (omega arith)
index-push (y ∷ ys) x zero lt = refl
index-push (y ∷ ys) x (suc k) lt = index-push ys x k (omega arith)

index-last : (xs : List ℕ) (x k : ℕ) → k ≡ length xs → slice_index (xs ++ x ∷ []) k ≡ x
index-last [] x zero e = refl
index-last [] x (suc k) e = absurd (omega arith)
index-last (y ∷ ys) x zero e = absurd (omega arith)
index-last (y ∷ ys) x (suc k) e = index-last ys x k (omega arith)

ids_next : (given : ℕ) (marks : List Bool) (place : ℕ) (ids : List ℕ) (next : ℕ) → length ids ≡ place → next ≡ new_id given marks place → ((k : ℕ) → k < place → slice_index ids k ≡ new_id given marks k) → (k : ℕ) → k < place + 1 → slice_index (ids ++ next ∷ []) k ≡ new_id given marks k
ids_next given marks place ids next listed is ids_are k lt = elim (eqb_tells k place) [
  | inl t ↦ index-last ids next k (omega (arith, t.1, listed)) ∙ is ∙ ap (new_id given marks) (sym t.1)
  | inr t ↦ let below : k < place = omega (arith, lt, t.1) in index-push ids next k (omega (arith, below, listed)) ∙ ids_are k below
]

pub new_id-marked : (given : ℕ) (marks : List Bool) (k : ℕ) → k < length marks → is_marked marks k ≡ true → new_id given marks (k + 1) ≡ new_id given marks k + 1
new_id-marked given marks k lt e = omega (arith, count_by_more_yes (λ (m : Bool). m) marks k false lt e)

pub new_id-passed : (given : ℕ) (marks : List Bool) (k : ℕ) → k < length marks → is_marked marks k ≡ false → new_id given marks (k + 1) ≡ new_id given marks k
new_id-passed given marks k lt e = omega (arith, count_by_more_no (λ (m : Bool). m) marks k false lt e)

length-take-le : {X : Type 0} (xs : List X) (n : ℕ) → length (take n xs) ≤ n
length-take-le xs zero = omega arith
length-take-le [] (suc n) = omega arith
length-take-le (x ∷ xs) (suc n) = omega (arith, length-take-le xs n)

pub new_id-le : (given : ℕ) (marks : List Bool) (k : ℕ) → new_id given marks k ≤ given + 1 + k
new_id-le given marks k = omega (arith, count_by-le-length (λ (m : Bool). m) (take k marks), length-take-le marks k)

module _ (given : ℕ) (marks : List Bool) (inferences : List Inference) (place : ℕ) (ids : List ℕ) (next : ℕ) (steps : List Step) (r : IsRenumbering given marks inferences place ids next steps) (as_many : length marks ≡ length inferences) (lt : place < length inferences) (i : Inference) (there : slice_get inferences place ≡ Some i) where
  renumbers_one : is_marked marks place ≡ true → IsRenumbering given marks inferences (place + 1) (ids ++ next ∷ []) (next + 1) (steps ++ new_step given marks (place, i) ∷ [])
  renumbers_one e = record {
    listed = omega (arith, length-append ids (next ∷ []), r.listed);
    ids_are = ids_next given marks place ids next r.listed r.next_is r.ids_are;
    next_is = ap (λ (n : ℕ). n + 1) r.next_is ∙ sym (new_id-marked given marks place (omega (arith, lt, as_many)) e);
    written = rw (written-next given marks inferences place i there lt, r.written, e) refl;
  }

  pub renumbers_none : is_marked marks place ≡ false → IsRenumbering given marks inferences (place + 1) (ids ++ next ∷ []) next steps
  renumbers_none e = record {
    listed = omega (arith, length-append ids (next ∷ []), r.listed);
    ids_are = ids_next given marks place ids next r.listed r.next_is r.ids_are;
    next_is = r.next_is ∙ sym (new_id-passed given marks place (omega (arith, lt, as_many)) e);
    written = r.written ∙ sym (written-next given marks inferences place i there lt ∙ (rw e (append-nil _)));
  }

  -- as a loop has them: the addition is written down
  pub renumbers_marked : (ids2 : List ℕ) (next2 : ℕ) (steps2 : List Step) (hints : List ℤ) → ids2 ≡ ids ++ next ∷ [] → next2 ≡ next + 1 → hints ≡ map (new_hint given marks) (unwrap_or i.by []) → steps2 ≡ steps ++ Add next i.clause hints ∷ [] → is_marked marks place ≡ true
      → IsRenumbering given marks inferences (place + 1) ids2 next2 steps2
  renumbers_marked ids2 next2 steps2 hints ids_is next_is hints_are steps_are e =
      let step : Add next i.clause hints ≡ new_step given marks (place, i) = rw (hints_are, r.next_is) refl in
      rw (ids_is, next_is, steps_are, step) (renumbers_one e)

  -- or passed over
  pub renumbers_passed : (ids2 : List ℕ) (next2 : ℕ) (steps2 : List Step) → ids2 ≡ ids ++ next ∷ [] → next2 ≡ next → steps2 ≡ steps → is_marked marks place ≡ false → IsRenumbering given marks inferences (place + 1) ids2 next2 steps2
  renumbers_passed ids2 next2 steps2 ids_is next_is steps_are e = rw (ids_is, next_is, steps_are) (renumbers_none e)

-- the ids are few enough
pub ids_small : (given : ℕ) (marks : List Bool) (place : ℕ) (ids : List ℕ) (next : ℕ) → length ids ≡ place → next ≡ new_id given marks place → ((k : ℕ) → k < place → slice_index ids k ≡ new_id given marks k) → given ≤ MOST_CLAUSES → place ≤ MOST → All (λ id. id ≤ MOST_ID) (ids ++ next ∷ [])
ids_small given marks place ids next listed is ids_are few most = λ k d lt.
    let below : k < place + 1 = omega (arith, lt, listed, length-append ids (next ∷ [])) in
    let same : get_or (ids ++ next ∷ []) k d ≡ new_id given marks k = get_or_default_zero (ids ++ next ∷ []) k d lt ∙ ids_next given marks place ids next listed is ids_are k below in
    rw same (omega (arith, new_id-le given marks k, below, few, most))

pub given_by : (given : ℕ) (inferences : List Inference) (k : ℕ) (i : Inference) → AreGivenWithin given inferences → slice_get inferences k ≡ Some i → given ≤ MOST_CLAUSES → All (IsGivenWithin MOST_CLAUSES) (unwrap_or i.by [])
given_by given inferences k i all there few = λ n d lt. more (get_or (unwrap_or i.by []) n d) (subst (λ (ss : List Source). All (IsGivenWithin given) ss) (ap sources_in there) (all k) n d lt) where
  more : (s : Source) → IsGivenWithin given s → IsGivenWithin MOST_CLAUSES s
  more (Given id) h = (h.0, omega (arith, h.1, few))
  more (Added j) h = tt

-- the new hints are those of the definition
pub same_hints : (given : ℕ) (marks : List Bool) (ids : List ℕ) (bound : ℕ) (sources : List Source) → ((k : ℕ) → k < bound → slice_index ids k ≡ new_id given marks k) → All (IsBelow bound) sources → map (hint_by ids) sources ≡ map (new_hint given marks) sources
same_hints given marks ids bound [] ids_are all = refl
same_hints given marks ids bound (s ∷ ss) ids_are all =
    let parts = recursion_from_All (IsBelow bound) (s ∷ ss) all in
    rw (one s parts.0, same_hints given marks ids bound ss ids_are (All-from_recursion (IsBelow bound) ss parts.1)) refl
  where
    one : (t : Source) → IsBelow bound t → hint_by ids t ≡ new_hint given marks t
    one (Given id) h = refl
    one (Added k) h = ap pos (ids_are k h)

id_within : (n : ℕ) → 1 ≤ n → n ≤ MOST_ID → is_id n ≡ true
id_within n low high = rw (le-leb 1 n low, le-leb n MOST_ID high) refl

hints_within : (given : ℕ) (marks : List Bool) (bound : ℕ) (sources : List Source) → given ≤ MOST_CLAUSES → bound ≤ MOST + 1 → All (IsBelow bound) sources → All (IsGivenWithin MOST_CLAUSES) sources → list_all is_hint (map (new_hint given marks) sources) ≡ true
hints_within given marks bound [] few most below within = refl
hints_within given marks bound (s ∷ ss) few most below within =
    let b = recursion_from_All (IsBelow bound) (s ∷ ss) below in
    let w = recursion_from_All (IsGivenWithin MOST_CLAUSES) (s ∷ ss) within in
    rw (one s b.0 w.0, hints_within given marks bound ss few most (All-from_recursion (IsBelow bound) ss b.1) (All-from_recursion (IsGivenWithin MOST_CLAUSES) ss w.1)) refl
  where
    one : (t : Source) → IsBelow bound t → IsGivenWithin MOST_CLAUSES t → is_hint (new_hint given marks t) ≡ true
    one (Given id) h g = id_within id g.0 (omega (arith, g.1))
    one (Added k) h g = id_within (new_id given marks k) (omega arith) (omega (arith, new_id-le given marks k, h, few, most))

pub new_in_range : (given : ℕ) (marks : List Bool) (place next : ℕ) (lits : List ℤ) (sources : List Source) → next ≡ new_id given marks place → given ≤ MOST_CLAUSES → place ≤ MOST → All (IsBelow (place + 1)) sources → All (IsGivenWithin MOST_CLAUSES) sources → IsInRange (Add next lits (map (new_hint given marks) sources))
new_in_range given marks place next lits sources is few most below within =
    let id : is_id next ≡ true = id_within next (omega (arith, is)) (omega (arith, is, new_id-le given marks place, few, most)) in
    rw (id, hints_within given marks (place + 1) sources few (omega (arith, most)) below within) refl

-- the ids with the next one
pub ids_are-next : (given : ℕ) (marks : List Bool) (inferences : List Inference) (place : ℕ) (ids : List ℕ) (next : ℕ) (steps : List Step) → IsRenumbering given marks inferences place ids next steps → (k : ℕ) → k < place + 1 → slice_index (ids ++ next ∷ []) k ≡ new_id given marks k
ids_are-next given marks inferences place ids next steps r = ids_next given marks place ids next r.listed r.next_is r.ids_are
