-- A log that grows: good steps, and the clauses that are live after them.
use Rattle.std.proofs.Common.{◌≡◌, ◌⊎◌, ℕ, ◌+◌, ◌<◌, ◌≤◌, Bool, true, false, not, cond, inl, inr, List, [], ◌∷◌, ◌++◌, length, Some, None, is_some, refl, sym, ap, subst, ◌∙◌, arith, append_assoc}
use Rattle.std.specs.Prelude.{ℤ, fold, filter, ◌||◌, ◌&&◌, ◌==◌}
use Rattle.std.specs.List.{list_any, list_all, enumerate_from}
use Rattle.std.proofs.lemmas.Bool.{and_from, and_parts}
use Rattle.std.proofs.lemmas.Bool.Decides.{Decides-eqb}
use Rattle.std.proofs.lemmas.List.Folds.{list_all-append}
use Rattle.std.proofs.lemmas.List.Sums.{sum_by-append, sum_by-cons}
use Rattle.std.proofs.lemmas.List.Elements.{filter-append}
use Rattle.std.proofs.lemmas.List.{append-nil}
use Rattle.lls_lit.specs.Formula.{Clause, Cnf}
use Rattle.lls_prooflog.specs.UnitWalk.{Live, numbered, find_clause}
use Rattle.lls_prooflog.specs.Steps.{fault_of, after, are_accepted, is_empty_addition}
use Rattle.lls_prooflog.specs.Spent.{LogState, log_start, log_after, live_after, EachStep, IsGood, AddsByPropagation, IsFreshAddition, AddsFresh, IsLateDeletion, SomeCanBeLearnt, IsUnrefuted, is_addition}
use Rattle.lls_prooflog.proofs.Soundness.{fault_of_good}
use Rattle.lls_prooflog.proofs.FreshClauses.{no_hints_refute}
use Rattle.lls_prooflog.specs.declared.step.Step.{Step}
use Rattle.lls_prooflog.specs.declared.step.Step.TheVariants.{Add, Del}
use Rattle.lls_store.specs.Store.{StoreState, sealed}
use Rattle.lls_analyse.specs.Spelled.{Spells}
use Rattle.lls_solver.specs.Searching.{additions, AreNumberedFrom, HoldsClauses, HoldsFormula, IsGoodLog, IsRefutation, IsExhausted, KeepsAll}
use Rattle.lls_solver.proofs.Clauses.{holds_sealed}

pub fold-push : {X S : Type 0} (f : S → X → S) (s : S) (xs : List X) (x : X) → fold f s (xs ++ x ∷ []) ≡ f (fold f s xs) x
fold-push f s [] x = refl
fold-push f s (y ∷ ys) x = fold-push f (f s y) ys x

pub live_after-push : (formula : Cnf) (steps : List Step) (step : Step) → live_after formula (steps ++ step ∷ []) ≡ after (live_after formula steps) step
live_after-push formula steps step = ap (λ (state : LogState). state.live) (fold-push log_after (log_start formula) steps step)

pub each_push : (P : LogState → Step → Type 0) (state : LogState) (steps : List Step) (step : Step) → EachStep P state steps → P (fold log_after state steps) step → EachStep P state (steps ++ step ∷ [])
each_push P state [] step each last = (last, tt)
each_push P state (s ∷ steps) step each last = (each.0, each_push P (log_after state s) steps step each.1 last)

not_empty : (id : ℕ) (lits hints : List ℤ) → 0 < length lits → not (is_empty_addition (Add id lits hints)) ≡ true
not_empty id [] hints some = absurd (omega (arith, some))
not_empty id (l ∷ ls) hints some = refl

one_more : (step : Step) → additions (step ∷ []) ≡ cond (is_addition step) 1 0
one_more step = sum_by-cons (λ s. cond (is_addition s) 1 0) step [] ∙ omega arith

pub additions-push : (steps : List Step) (id : ℕ) (lits hints : List ℤ) → additions (steps ++ Add id lits hints ∷ []) ≡ additions steps + 1
additions-push steps id lits hints = sum_by-append (λ s. cond (is_addition s) 1 0) steps (Add id lits hints ∷ []) ∙ ap (λ n. additions steps + n) (one_more (Add id lits hints))

pub additions-cons : (step : Step) (steps : List Step) → additions (step ∷ steps) ≡ cond (is_addition step) 1 0 + additions steps
additions-cons step steps = sum_by-cons (λ s. cond (is_addition s) 1 0) step steps

pub numbered_push : (n : ℕ) (steps : List Step) (id : ℕ) (lits hints : List ℤ) → AreNumberedFrom n steps → n + additions steps ≡ id → AreNumberedFrom n (steps ++ Add id lits hints ∷ [])
numbered_push n [] id lits hints h is = (omega (arith, is), tt)
numbered_push n (Del ids ∷ steps) id lits hints h is = numbered_push n steps id lits hints h (omega (arith, is, additions-cons (Del ids) steps))
numbered_push n (Add i ls hs ∷ steps) id lits hints h is = (h.0, numbered_push (n + 1) steps id lits hints h.1 (omega (arith, is, additions-cons (Add i ls hs) steps)))

-- a clause that was learnt is live in the store as behind the log
pub holds_learnt : (formula : Cnf) (steps : List Step) (store : StoreState) (id : ℕ) (lits hints : List ℤ) → HoldsClauses store formula.vars (live_after formula steps) (length formula.clauses + additions steps) → length formula.clauses + additions steps + 1 ≡ id
    → HoldsClauses (sealed (record store { tail = lits }) id) formula.vars (live_after formula (steps ++ Add id lits hints ∷ [])) (length formula.clauses + additions (steps ++ Add id lits hints ∷ []))
holds_learnt formula steps store id lits hints h is =
    let pairs = live_after formula steps in
    let last = length formula.clauses + additions steps in
    let more = subst (λ (n : ℕ). HoldsClauses (sealed (record store { tail = lits }) n) formula.vars (pairs ++ (n, lits) ∷ []) n) is (holds_sealed store formula.vars pairs last lits h) in
    let many : id ≡ length formula.clauses + additions (steps ++ Add id lits hints ∷ []) = omega (arith, is, additions-push steps id lits hints) in
    subst (λ (n : ℕ). HoldsClauses (sealed (record store { tail = lits }) id) formula.vars (live_after formula (steps ++ Add id lits hints ∷ [])) n) many
    (subst (λ (ps : Live). HoldsClauses (sealed (record store { tail = lits }) id) formula.vars ps id) (sym (live_after-push formula steps (Add id lits hints))) more)

-- an addition deletes nothing
pub kept_push : (keep_all : Bool) (steps : List Step) (id : ℕ) (lits hints : List ℤ) → KeepsAll keep_all steps → KeepsAll keep_all (steps ++ Add id lits hints ∷ [])
kept_push keep_all steps id lits hints kept = λ is. list_all-append is_addition steps (Add id lits hints ∷ []) ∙ and_from (list_all is_addition steps) true (kept is) refl

pub good_push : (formula : Cnf) (steps : List Step) (id : ℕ) (lits hints : List ℤ) → IsGoodLog formula steps → length formula.clauses + 1 + additions steps ≡ id → AddsByPropagation (live_after formula steps) id lits hints → AddsFresh formula.vars (live_after formula steps) lits → IsGoodLog formula (steps ++ Add id lits hints ∷ [])
good_push formula steps id lits hints h is good adds = record {
  numbered_on = numbered_push (length formula.clauses + 1) steps id lits hints h.numbered_on is;
  good = each_push IsGood (log_start formula) steps (Add id lits hints) h.good good;
  fresh = each_push (IsFreshAddition formula.vars) (log_start formula) steps (Add id lits hints) h.fresh adds;
  deletions = each_push IsLateDeletion (log_start formula) steps (Add id lits hints) h.deletions tt;
  none_empty = list_all-append (λ step. not (is_empty_addition step)) steps (Add id lits hints ∷ []) ∙ and_from (list_all (λ step. not (is_empty_addition step)) steps) (not (is_empty_addition (Add id lits hints)) && true) h.none_empty (and_from (not (is_empty_addition (Add id lits hints))) true (not_empty id lits hints adds.some) refl);
}

-- where the empty clause comes behind good steps, the log is accepted
accepted_from : (state : LogState) (steps : List Step) (last : Step) → EachStep IsGood state steps → fault_of (fold log_after state steps).live last ≡ None → is_empty_addition last ≡ true → are_accepted state.live (steps ++ last ∷ []) ≡ true
accepted_from state [] last each good empty = rw (good, empty) refl
accepted_from state (step ∷ steps) last each good empty =
    let rest = accepted_from (log_after state step) steps last each.1 good empty in
    rw (fault_of_good state step each.0, rest) (or_true (is_empty_addition step)) where
      or_true : (b : Bool) → (b || true) ≡ true
      or_true true = refl
      or_true false = refl

pub refutation_push : (formula : Cnf) (budget : ℕ) (steps : List Step) (id : ℕ) (hints : List ℤ) → IsGoodLog formula steps → additions steps ≤ budget → length formula.clauses + 1 + additions steps ≡ id
    → AddsByPropagation (live_after formula steps) id [] hints → IsRefutation formula budget (steps ++ Add id [] hints ∷ [])
refutation_push formula budget steps id hints h within is good = record {
  learnt = steps;
  last = Add id [] hints;
  log = record { log = h; within = within };
  ends = refl;
  empties = refl;
  good = each_push IsGood (log_start formula) steps (Add id [] hints) h.good good;
  accepted = accepted_from (log_start formula) steps (Add id [] hints) h.good (fault_of_good (fold log_after (log_start formula) steps) (Add id [] hints) good) refl;
  numbered_on = numbered_push (length formula.clauses + 1) steps id [] hints h.numbered_on is;
}

-- ids up to a number
abbrev AreUpTo : ℕ → Live → Type 0
AreUpTo n [] = Unit {0}
AreUpTo n (pair ∷ pairs) = (pair.0 ≤ n) × AreUpTo n pairs

numbered_up_to : (n first : ℕ) (clauses : List Clause) → first + length clauses ≤ n + 1 → AreUpTo n (enumerate_from first clauses)
numbered_up_to n first [] most = tt
numbered_up_to n first (clause ∷ clauses) most = (omega (arith, most), numbered_up_to n (first + 1) clauses (omega (arith, most)))

-- where an id is found, it is one of those before, or the last one
found_push : (pairs : Live) (id : ℕ) (lits : Clause) (other : ℕ) → is_some (find_clause (pairs ++ (id, lits) ∷ []) other) ≡ true → (is_some (find_clause pairs other) ≡ true) ⊎ (id ≡ other)
found_push [] id lits other found =
    elim (id == other) as (λ b. (id == other) ≡ b → is_some (cond b (Some lits) None) ≡ true → (is_some (find_clause [] other) ≡ true) ⊎ (id ≡ other)) [
      | true ↦ λ e _. inr ((Decides-eqb id other).0 e)
      | false ↦ λ _ f. absurd cc
    ] refl found
found_push (pair ∷ pairs) id lits other found =
    elim (pair.0 == other) as (λ b. is_some (cond b (Some pair.1) (find_clause (pairs ++ (id, lits) ∷ []) other)) ≡ true → (is_some (cond b (Some pair.1) (find_clause pairs other)) ≡ true) ⊎ (id ≡ other)) [
      | true ↦ λ _. inl refl
      | false ↦ λ f. found_push pairs id lits other f
    ] found

-- what is found among those that are left was found before
found_left : (keep : ℕ × Clause → Bool) (pairs : Live) (id : ℕ) → is_some (find_clause (filter keep pairs) id) ≡ true → is_some (find_clause pairs id) ≡ true
found_left keep [] id found = found
found_left keep (pair ∷ pairs) id found =
    elim (pair.0 == id) as (λ b. (pair.0 == id) ≡ b → is_some (cond b (Some pair.1) (find_clause pairs id)) ≡ true) [
      | true ↦ λ _. refl
      | false ↦ λ other. found_left keep pairs id (elim (keep pair) as (λ k. is_some (find_clause (cond k (pair ∷ filter keep pairs) (filter keep pairs)) id) ≡ true → is_some (find_clause (filter keep pairs) id) ≡ true) [
        | true ↦ λ f. (rw other at f)
        | false ↦ λ f. f
      ] found)
    ] refl

differs : (a b : ℕ) → (a ≡ b → ⊥) → (a == b) ≡ false
differs a b apart = elim (a == b) as (λ t. (a == b) ≡ t → t ≡ false) [ true ↦ λ e. absurd (apart ((Decides-eqb a b).0 e)) | false ↦ λ _. refl ] refl

-- whether none of the ids names the pair
abbrev is_unnamed : List ℕ → ℕ × Clause → Bool
is_unnamed ids pair = not (list_any (λ id. id == pair.0) ids)

unnamed : (n : ℕ) (ids : List ℕ) (added : Live) (pair : ℕ × Clause) → ((id : ℕ) → is_some (find_clause added id) ≡ true → n < id) → list_all (λ id. is_some (find_clause added id)) ids ≡ true → pair.0 ≤ n → is_unnamed ids pair ≡ true
unnamed n [] added pair behind all le = refl
unnamed n (id ∷ ids) added pair behind all le =
    let parts = and_parts (is_some (find_clause added id)) (list_all (λ i. is_some (find_clause added i)) ids) all in
    let other : (id == pair.0) ≡ false = differs id pair.0 (λ same. let lt = behind id parts.0 in omega (arith, same, lt, le)) in
    rw other (unnamed n ids added pair behind parts.1 le)

-- so those up to the number stay
kept_front : (n : ℕ) (front : Live) (ids : List ℕ) (added : Live) → AreUpTo n front → ((id : ℕ) → is_some (find_clause added id) ≡ true → n < id) → list_all (λ id. is_some (find_clause added id)) ids ≡ true → filter (is_unnamed ids) front ≡ front
kept_front n [] ids added up_to behind all = refl
kept_front n (pair ∷ pairs) ids added up_to behind all = rw (unnamed n ids added pair behind all up_to.0, kept_front n pairs ids added up_to.1 behind all) refl

-- deletions of additions alone leave in front what was live at first, and the additions that are live behind it
live_front : (n : ℕ) (front : Live) → AreUpTo n front → (state : LogState) (steps : List Step) (next : ℕ) → n < next → AreNumberedFrom next steps → EachStep IsLateDeletion state steps
    → ((id : ℕ) → is_some (find_clause state.added id) ≡ true → n < id) → state.live ≡ front ++ state.added → (fold log_after state steps).live ≡ front ++ (fold log_after state steps).added
live_front n front up_to state [] next lt numbers late behind is = is
live_front n front up_to state (Add id lits hints ∷ steps) next lt numbers late behind is =
    live_front n front up_to (log_after state (Add id lits hints)) steps (next + 1) (omega (arith, lt)) numbers.1 late.1
    (λ other found. elim (found_push state.added id lits other found) [ inl earlier ↦ behind other earlier | inr same ↦ omega (arith, same, numbers.0, lt) ])
    (ap (λ (live : Live). live ++ (id, lits) ∷ []) is ∙ append_assoc front state.added ((id, lits) ∷ []))
live_front n front up_to state (Del ids ∷ steps) next lt numbers late behind is =
    live_front n front up_to (log_after state (Del ids)) steps next lt numbers late.1 (λ other found. behind other (found_left (is_unnamed ids) state.added other found))
    (ap (filter (is_unnamed ids)) is ∙ filter-append (is_unnamed ids) front state.added ∙ ap (λ (live : Live). live ++ filter (is_unnamed ids) state.added) (kept_front n front ids state.added up_to behind late.0.added_alone))

-- so what is live behind a good log is the formula's clauses and then the additions that are
pub live_parts : (formula : Cnf) (steps : List Step) → IsGoodLog formula steps → live_after formula steps ≡ numbered formula.clauses ++ (fold log_after (log_start formula) steps).added
live_parts formula steps log =
    let n = length formula.clauses in
    live_front n (numbered formula.clauses) (numbered_up_to n 1 formula.clauses (omega arith)) (log_start formula) steps (n + 1) (omega arith) log.numbered_on log.deletions (λ id found. absurd cc) (sym (append-nil (numbered formula.clauses)))

-- behind ids up to a number a greater one is found
found_behind : (n : ℕ) (front added : Live) (id : ℕ) → AreUpTo n front → n < id → is_some (find_clause (front ++ added) id) ≡ true → is_some (find_clause added id) ≡ true
found_behind n [] added id up_to lt found = found
found_behind n (pair ∷ pairs) added id up_to lt found =
    found_behind n pairs added id up_to.1 lt (subst (λ b. is_some (cond b (Some pair.1) (find_clause (pairs ++ added) id)) ≡ true) (differs pair.0 id (λ same. omega (arith, same, up_to.0, lt))) found)

-- a live clause with an id above those of the formula's was added
pub found_added : (formula : Cnf) (steps : List Step) (id : ℕ) → IsGoodLog formula steps → length formula.clauses < id → is_some (find_clause (live_after formula steps) id) ≡ true → is_some (find_clause (fold log_after (log_start formula) steps).added id) ≡ true
found_added formula steps id log lt found =
    let n = length formula.clauses in
    found_behind n (numbered formula.clauses) (fold log_after (log_start formula) steps).added id (numbered_up_to n 1 formula.clauses (omega arith)) lt (subst (λ (ps : Live). is_some (find_clause ps id) ≡ true) (live_parts formula steps log) found)

-- a store of the clauses that are live after a good log has those of the formula
pub holds_formula : (formula : Cnf) (steps : List Step) (store : StoreState) (last : ℕ) → HoldsClauses store formula.vars (live_after formula steps) last → IsGoodLog formula steps → HoldsFormula formula store
holds_formula formula steps store last h log =
    record { store_vars = h.store_vars; more = (fold log_after (log_start formula) steps).added; spelled = subst (Spells store.live) (live_parts formula steps log) h.spelled }

-- where some further clause can be learnt, propagation alone doesn't refute
unrefuted_further : (vars : ℕ) (live : Live) → SomeCanBeLearnt vars live → IsUnrefuted live
unrefuted_further vars live (lits, (hints, further)) = λ others positive. no_hints_refute live lits others further.fresh

pub exhausted : (formula : Cnf) (budget : ℕ) (steps : List Step) → IsGoodLog formula steps → additions steps ≡ budget → SomeCanBeLearnt formula.vars (live_after formula steps) → IsExhausted formula budget steps
exhausted formula budget steps h many further = record {
  log = h;
  spent = record {
    budgeted = many;
    good = h.good;
    additions = h.fresh;
    deletions = h.deletions;
    further = further;
    unrefuted = unrefuted_further formula.vars (live_after formula steps) further;
  };
}
