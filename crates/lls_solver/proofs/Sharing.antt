-- Searchers over one log: the clauses that a store lacks, and the ids that it has.
use Rattle.std.proofs.Common.{◌≡◌, ℕ, zero, suc, ◌+◌, ◌-◌, ◌<◌, ◌≤◌, true, not, List, [], ◌∷◌, ◌++◌, length, length-append, get_or, map, take, Option, Some, None, refl, sym, ap, subst, ◌∙◌, arith, append_assoc}
use Rattle.std.specs.Prelude.{ℤ, fold, slice_get, ◌==◌}
use Rattle.std.specs.List.{list_any, list_all, enumerate_from}
use Rattle.std.proofs.lemmas.List.{append-nil, get_or-map, length-map, length-take, length-take-le, take-append-le, take-map, take_all}
use Rattle.std.proofs.lemmas.List.FromFn.{length-enumerate_from}
use Rattle.std.proofs.lemmas.List.Sums.{fold-append}
use Rattle.std.proofs.lemmas.Option.{same_Some, slice_get-get_or, slice_get_within}
use Rattle.lls_lit.specs.Formula.{Clause, Cnf, is_within}
use Rattle.lls_prooflog.specs.UnitWalk.{Live, numbered}
use Rattle.lls_prooflog.specs.Spent.{LogState, log_start, log_after, live_after, EachStep, IsFreshAddition, is_addition}
use Rattle.lls_prooflog.specs.declared.step.Step.{Step}
use Rattle.lls_prooflog.specs.declared.step.Step.TheVariants.{Add, Del}
use Rattle.lls_store.specs.declared.store.TheConstants.{MOST_ID}
use Rattle.lls_store.specs.Clauses.{LiveClause}
use Rattle.lls_store.specs.Trail.{TrailState}
use Rattle.lls_store.specs.Sound.{IsSound}
use Rattle.lls_store.specs.Store.{StoreState, IsNewId, with_clause}
use Rattle.lls_analyse.specs.Spelled.{Spells}
use Rattle.lls_solver.specs.Searching.{additions, ids_of, AreAscending, AreNumberedFrom, HoldsClauses, IsGoodLog, IsSearching}
use Rattle.lls_solver.specs.Sharing.{added_after, addition_at, addition_of, AreLiveSteps, HoldsFirst, IsBehind}
use Rattle.lls_solver.proofs.Clauses.{ascending_below, ascending_many, ascending_push, next_id, spells_push}
use Rattle.lls_solver.proofs.Forgotten.{ascending_filter, learnt_counted, spells_length}
use Rattle.lls_solver.proofs.Logs.{additions-cons, live_parts}

ascending_take : (k least : ℕ) (ids : List ℕ) (bound : ℕ) → AreAscending least ids bound → AreAscending least (take k ids) bound
ascending_take zero least ids bound h = ascending_below least ids bound h
ascending_take (suc k) least [] bound h = h
ascending_take (suc k) least (id ∷ ids) bound h = (h.0, ascending_take k (id + 1) ids bound h.1)

-- those before an id are less
ascending_before : (least : ℕ) (ids : List ℕ) (id bound : ℕ) → AreAscending least (ids ++ id ∷ []) bound → AreAscending least ids id
ascending_before least [] id bound h = h.0
ascending_before least (x ∷ ids) id bound h = (h.0, ascending_before (x + 1) ids id bound h.1)

ascending_last : (least : ℕ) (ids : List ℕ) (id bound : ℕ) → AreAscending least (ids ++ id ∷ []) bound → id + 1 ≤ bound
ascending_last least [] id bound h = h.1
ascending_last least (x ∷ ids) id bound h = ascending_last (x + 1) ids id bound h.1

ascending_numbered : (n : ℕ) (clauses : List Clause) → AreAscending n (ids_of (enumerate_from n clauses)) (n + length clauses)
ascending_numbered n [] = omega arith
ascending_numbered n (clause ∷ clauses) =
    let next : (n + 1) + length clauses ≡ n + length (clause ∷ clauses) = omega arith in
    (omega arith, subst (AreAscending (n + 1) (ids_of (enumerate_from (n + 1) clauses))) next (ascending_numbered (n + 1) clauses))

ids-push : (pairs : Live) (id : ℕ) (lits : Clause) → ids_of (pairs ++ (id, lits) ∷ []) ≡ ids_of pairs ++ id ∷ []
ids-push [] id lits = refl
ids-push (pair ∷ pairs) id lits = ap (λ (ids : List ℕ). pair.0 ∷ ids) (ids-push pairs id lits)

-- what steps leave live has ascending ids, where what was live before had
ascending_after : (state : LogState) (steps : List Step) (n : ℕ) → AreAscending 1 (ids_of state.live) n → AreNumberedFrom n steps → AreAscending 1 (ids_of (fold log_after state steps).live) (n + additions steps)
ascending_after state [] n h numbers = subst (AreAscending 1 (ids_of state.live)) (let e : n ≡ n + additions [] = omega arith in e) h
ascending_after state (Add id lits hints ∷ steps) n h numbers =
    let more : AreAscending 1 (ids_of (state.live ++ (id, lits) ∷ [])) (n + 1) =
    subst (λ (ids : List ℕ). AreAscending 1 ids (n + 1)) (sym (ids-push state.live id lits)) (subst (λ (i : ℕ). AreAscending 1 (ids_of state.live ++ i ∷ []) (n + 1)) (sym numbers.0) (ascending_push 1 (ids_of state.live) n h))
    in
    let many : n + 1 + additions steps ≡ n + additions (Add id lits hints ∷ steps) = omega (arith, additions-cons (Add id lits hints) steps) in
    subst (AreAscending 1 (ids_of (fold log_after state (Add id lits hints ∷ steps)).live)) many (ascending_after (log_after state (Add id lits hints)) steps (n + 1) more numbers.1)
ascending_after state (Del ids ∷ steps) n h numbers =
    let less = ascending_filter (λ (pair : ℕ × Clause). not (list_any (λ id. id == pair.0) ids)) 1 state.live n h in
    let many : n + additions steps ≡ n + additions (Del ids ∷ steps) = omega (arith, additions-cons (Del ids) steps) in
    subst (AreAscending 1 (ids_of (fold log_after state (Del ids ∷ steps)).live)) many (ascending_after (log_after state (Del ids)) steps n less numbers)

-- the ids of what is live after a good log ascend
pub ascending_live : (formula : Cnf) (steps : List Step) → IsGoodLog formula steps → AreAscending 1 (ids_of (live_after formula steps)) (length formula.clauses + additions steps + 1)
ascending_live formula steps log =
    let n = length formula.clauses in
    let start : AreAscending 1 (ids_of (numbered formula.clauses)) (n + 1) = let e : 1 + n ≡ n + 1 = omega arith in subst (AreAscending 1 (ids_of (numbered formula.clauses))) e (ascending_numbered 1 formula.clauses) in
    let many : n + 1 + additions steps ≡ n + additions steps + 1 = omega arith in
    subst (AreAscending 1 (ids_of (live_after formula steps))) many (ascending_after (log_start formula) steps (n + 1) start log.numbered_on)

-- an addition's id and clause
pair_of : Step → ℕ × Clause
pair_of (Add id lits hints) = (id, lits)
pair_of (Del ids) = (0, [])

added : (state : LogState) (steps : List Step) → list_all is_addition steps ≡ true → (fold log_after state steps).live ≡ state.live ++ map pair_of steps
unfolding pair_of
added state [] all = sym (append-nil state.live)
added state (Add id lits hints ∷ steps) all = added (log_after state (Add id lits hints)) steps all ∙ append_assoc state.live ((id, lits) ∷ []) (map pair_of steps)
added state (Del ids ∷ steps) all = absurd cc

-- how many clauses are live
pub length-live : (formula : Cnf) (steps : List Step) (numbers : List ℕ) → IsGoodLog formula steps → AreLiveSteps formula steps numbers → length (live_after formula steps) ≡ length formula.clauses + length numbers
length-live formula steps numbers log live =
    let pairs = added_after formula steps in
    let many : length numbers ≡ length pairs = sym (length-map numbers (addition_at steps)) ∙ ap length live ∙ length-map pairs (λ (pair : ℕ × Clause). Some pair) in
    learnt_counted formula steps log ∙ ap (λ n. length formula.clauses + n) (sym many)

-- no more additions are live than there are
pub live_most : (formula : Cnf) (steps : List Step) (numbers : List ℕ) → IsGoodLog formula steps → AreLiveSteps formula steps numbers → length numbers ≤ additions steps
live_most formula steps numbers log live =
    let pairs = live_after formula steps in
    omega (arith, length-live formula steps numbers log live, length-map pairs (λ (pair : ℕ × Clause). pair.0), ascending_many 1 (ids_of pairs) (length formula.clauses + additions steps + 1) (ascending_live formula steps log))

-- each of the numbers is one of an addition's step
live_number : (formula : Cnf) (steps : List Step) (numbers : List ℕ) (k : ℕ) → AreLiveSteps formula steps numbers → k < length numbers → addition_at steps (get_or numbers k 0) ≡ Some (get_or (added_after formula steps) k (0, []))
live_number formula steps numbers k live lt =
    let pairs = added_after formula steps in
    let some : ℕ × Clause → Option (ℕ × Clause) = λ pair. Some pair in
    let many : length numbers ≡ length pairs = sym (length-map numbers (addition_at steps)) ∙ ap length live ∙ length-map pairs some in
    sym (get_or-map (addition_at steps) numbers k 0 None lt) ∙ ap (λ (os : List (Option (ℕ × Clause))). get_or os k None) live ∙ get_or-map some pairs k (0, []) None (omega (arith, lt, many))

added_within : (steps : List Step) (n : ℕ) (pair : ℕ × Clause) → addition_at steps n ≡ Some pair → n < length steps
added_within steps n pair is = by_step (slice_get steps n) refl is where
  by_step : (o : Option Step) → slice_get steps n ≡ o → addition_of o ≡ Some pair → n < length steps
  by_step (Some step) at adds = slice_get_within steps n step at
  by_step None none adds = absurd cc

pub number_within : (formula : Cnf) (steps : List Step) (numbers : List ℕ) (k : ℕ) → AreLiveSteps formula steps numbers → k < length numbers → get_or numbers k 0 < length steps
number_within formula steps numbers k live lt = added_within steps (get_or numbers k 0) (get_or (added_after formula steps) k (0, [])) (live_number formula steps numbers k live lt)

-- so none is one of a deletion
pub no_deletion : (formula : Cnf) (steps : List Step) (numbers : List ℕ) (k n : ℕ) (ids : List ℕ) → AreLiveSteps formula steps numbers → k < length numbers → n ≡ get_or numbers k 0 → slice_get steps n ≡ Some (Del ids) → ⊥
no_deletion formula steps numbers k n ids live lt same is =
    let adds = live_number formula steps numbers k live lt in
    let none : addition_at steps (get_or numbers k 0) ≡ None = ap (addition_at steps) (sym same) ∙ ap addition_of is in
    let clash : Some (get_or (added_after formula steps) k (0, [])) ≡ None = sym adds ∙ none in
    absurd cc

slice_get-behind : (front back : Live) (k : ℕ) → slice_get (front ++ back) (length front + k) ≡ slice_get back k
slice_get-behind [] back k = let e : 0 + k ≡ k = omega arith in ap (slice_get back) e
slice_get-behind (pair ∷ front) back k =
    let e : length (pair ∷ front) + k ≡ suc (length front + k) = omega arith in
    ap (slice_get (pair ∷ front ++ back)) e ∙ slice_get-behind front back k

-- the addition of a step is live behind so many clauses of the formula
live_at : (formula : Cnf) (steps : List Step) (numbers : List ℕ) (k n id : ℕ) (lits : Clause) (hints : List ℤ) → IsGoodLog formula steps → AreLiveSteps formula steps numbers → k < length numbers → n ≡ get_or numbers k 0 → slice_get steps n ≡ Some (Add id lits hints)
    → slice_get (live_after formula steps) (length formula.clauses + k) ≡ Some (id, lits)
live_at formula steps numbers k n id lits hints log live lt same is =
    let pairs = added_after formula steps in
    let some : ℕ × Clause → Option (ℕ × Clause) = λ pair. Some pair in
    let many : length numbers ≡ length pairs = sym (length-map numbers (addition_at steps)) ∙ ap length live ∙ length-map pairs some in
    let adds : addition_at steps (get_or numbers k 0) ≡ Some (id, lits) = ap (addition_at steps) (sym same) ∙ ap addition_of is in
    let pair : get_or pairs k (0, []) ≡ (id, lits) = same_Some (get_or pairs k (0, [])) (id, lits) (sym (live_number formula steps numbers k live lt) ∙ adds) in
    let front : length (numbered formula.clauses) ≡ length formula.clauses = length-enumerate_from 1 formula.clauses in
    ap (λ (ps : Live). slice_get ps (length formula.clauses + k)) (live_parts formula steps log) ∙ ap (λ n. slice_get (numbered formula.clauses ++ pairs) (n + k)) (sym front)
    ∙ slice_get-behind (numbered formula.clauses) pairs k ∙ slice_get-get_or pairs k (0, []) (omega (arith, lt, many)) ∙ ap some pair

take_one_more : (pairs : Live) (k : ℕ) (pair : ℕ × Clause) → slice_get pairs k ≡ Some pair → take (k + 1) pairs ≡ take k pairs ++ pair ∷ []
take_one_more [] k pair is = absurd cc
take_one_more (x ∷ xs) zero pair is = let same : x ≡ pair = same_Some x pair is in ap (λ (p : ℕ × Clause). p ∷ []) same
take_one_more (x ∷ xs) (suc k) pair is =
    let next : suc k + 1 ≡ suc (k + 1) = omega arith in
    rw (next, take_one_more xs k pair is) refl

-- each added clause is one of the formula's variables
within_at : (vars : ℕ) (state : LogState) (steps : List Step) (k id : ℕ) (lits : Clause) (hints : List ℤ) → EachStep (IsFreshAddition vars) state steps → slice_get steps k ≡ Some (Add id lits hints) → is_within vars lits ≡ true
within_at vars state [] k id lits hints each is = absurd cc
within_at vars state (step ∷ steps) zero id lits hints each is =
    let same : step ≡ Add id lits hints = same_Some step (Add id lits hints) is in
    (subst (IsFreshAddition vars state) same each.0).within
within_at vars state (step ∷ steps) (suc k) id lits hints each is = within_at vars (log_after state step) steps k id lits hints each.1 is

-- a store that has what is live up to a step, where the next one is an addition
pub record LacksNext (formula : Cnf) (steps : List Step) (store : StoreState) (k id : ℕ) (lits : Clause) : Type 0 where
  pub is_new : IsNewId store.live id
  pub within : is_within store.vars lits ≡ true
  pub more : HoldsClauses (with_clause store id lits) formula.vars (take (length formula.clauses + (k + 1)) (live_after formula steps)) (length formula.clauses + additions steps)

pub lacks_next : (formula : Cnf) (steps : List Step) (numbers : List ℕ) (store : StoreState) (k n id : ℕ) (lits : Clause) (hints : List ℤ) → IsGoodLog formula steps → AreLiveSteps formula steps numbers → k < length numbers → n ≡ get_or numbers k 0 → slice_get steps n ≡ Some (Add id lits hints)
    → HoldsClauses store formula.vars (take (length formula.clauses + k) (live_after formula steps)) (length formula.clauses + additions steps) → length formula.clauses + additions steps + 1 ≤ MOST_ID
    → LacksNext formula steps store k id lits
lacks_next formula steps numbers store k number id lits hints log live lt same is h most =
    let n = length formula.clauses in
    let pairs = live_after formula steps in
    let last = n + additions steps in
    let front = take (n + k) pairs in
    let cut : take (n + (k + 1)) pairs ≡ front ++ (id, lits) ∷ [] =
    (let e : n + (k + 1) ≡ n + k + 1 = omega arith in ap (λ (i : ℕ). take i pairs) e) ∙ take_one_more pairs (n + k) (id, lits) (live_at formula steps numbers k number id lits hints log live lt same is)
    in
    let ids : AreAscending 1 (ids_of (front ++ (id, lits) ∷ [])) (last + 1) =
    subst (λ (ps : Live). AreAscending 1 (ids_of ps) (last + 1)) cut
    (subst (λ (is : List ℕ). AreAscending 1 is (last + 1)) (take-map (λ (pair : ℕ × Clause). pair.0) (n + (k + 1)) pairs) (ascending_take (n + (k + 1)) 1 (ids_of pairs) (last + 1) (ascending_live formula steps log)))
    in
    let split : AreAscending 1 (ids_of front ++ id ∷ []) (last + 1) = subst (λ (is : List ℕ). AreAscending 1 is (last + 1)) (ids-push front id lits) ids in
    let below : AreAscending 1 (ids_of front) id = ascending_before 1 (ids_of front) id (last + 1) split in
    let least : 1 ≤ id = ascending_below 1 (ids_of front) id below in
    let up : id + 1 ≤ last + 1 = ascending_last 1 (ids_of front) id (last + 1) split in
    let back : id - 1 + 1 ≡ id = omega (arith, least) in
    let low : HoldsClauses store formula.vars front (id - 1) = record { store_vars = h.store_vars; no_tail = h.no_tail; spelled = h.spelled; count = h.count; ids = subst (AreAscending 1 (ids_of front)) (sym back) below } in
    record {
      is_new = subst (IsNewId store.live) back (next_id store formula.vars front (id - 1) low (omega (arith, back, up, most)));
      within = rw h.store_vars (within_at formula.vars (log_start formula) steps number id lits hints log.fresh is);
      more = subst (λ (ps : Live). HoldsClauses (with_clause store id lits) formula.vars ps last) (sym cut) (record {
        store_vars = h.store_vars;
        no_tail = h.no_tail;
        spelled = spells_push store.live front store.count id lits h.spelled;
        count = omega (arith, h.count, length-append front ((id, lits) ∷ []));
        ids = ids;
      });
    }

-- a store that is behind has the first of what is live
pub holds_behind : (formula : Cnf) (steps : List Step) (store : StoreState) (trail : TrailState) → IsGoodLog formula steps → IsBehind formula steps store trail → HoldsClauses store formula.vars (take store.count (live_after formula steps)) (length formula.clauses + additions steps)
holds_behind formula steps store trail log behind =
    let pairs = live_after formula steps in
    let last = length formula.clauses + additions steps in
    let spelled : Spells store.live (take store.count pairs) = subst (λ (n : ℕ). Spells store.live (take n pairs)) (sym behind.count) behind.first.spelled in
    record {
      store_vars = behind.store_vars;
      no_tail = behind.no_tail;
      spelled = spelled;
      count = behind.count ∙ spells_length store.live (take store.count pairs) spelled;
      ids = subst (λ (is : List ℕ). AreAscending 1 is (last + 1)) (take-map (λ (pair : ℕ × Clause). pair.0) store.count pairs) (ascending_take store.count 1 (ids_of pairs) (last + 1) (ascending_live formula steps log));
    }

-- and holds all of it, where it has as many
pub searching_whole : (formula : Cnf) (steps : List Step) (store : StoreState) (trail : TrailState) → IsGoodLog formula steps → IsBehind formula steps store trail → length (live_after formula steps) ≤ store.count → IsSearching formula steps store trail
searching_whole formula steps store trail log behind most =
    let pairs = live_after formula steps in
    record {
      holds = subst (λ (ps : Live). HoldsClauses store formula.vars ps (length formula.clauses + additions steps)) (take_all store.count pairs most) (holds_behind formula steps store trail log behind);
      log = log;
      on_course = behind.on_course;
    }

-- where a store has the first so many, it has the first of all
pub first_of : (formula : Cnf) (steps : List Step) (store : StoreState) (k last : ℕ) → length formula.clauses ≤ k → k ≤ length (live_after formula steps) → HoldsClauses store formula.vars (take k (live_after formula steps)) last → HoldsFirst formula steps store.live
first_of formula steps store k last least most h =
    let pairs = live_after formula steps in
    let many : length store.live ≡ k = spells_length store.live (take k pairs) h.spelled ∙ length-take-le k pairs most in
    record { whole_formula = omega (arith, least, many); spelled = subst (λ (n : ℕ). Spells store.live (take n pairs)) (sym many) h.spelled }

-- how many clauses stand in front
pub counted : (formula : Cnf) (steps : List Step) (numbers : List ℕ) (store : StoreState) (k last : ℕ) → IsGoodLog formula steps → AreLiveSteps formula steps numbers → k ≤ length numbers → HoldsClauses store formula.vars (take (length formula.clauses + k) (live_after formula steps)) last → store.count ≡ length formula.clauses + k
counted formula steps numbers store k last log live most h =
    h.count ∙ length-take-le (length formula.clauses + k) (live_after formula steps) (omega (arith, length-live formula steps numbers log live, most))

pub first_added : (formula : Cnf) (steps : List Step) (numbers : List ℕ) (store : StoreState) (k last : ℕ) → IsGoodLog formula steps → AreLiveSteps formula steps numbers → k ≤ length numbers → HoldsClauses store formula.vars (take (length formula.clauses + k) (live_after formula steps)) last → HoldsFirst formula steps store.live
first_added formula steps numbers store k last log live most h =
    first_of formula steps store (length formula.clauses + k) last (omega arith) (omega (arith, length-live formula steps numbers log live, most)) h

-- a search under way has the first of what is live, which is all of it
pub first_searching : (formula : Cnf) (steps : List Step) (store : StoreState) (trail : TrailState) → IsSearching formula steps store trail → HoldsFirst formula steps store.live
first_searching formula steps store trail searching =
    let pairs = live_after formula steps in
    let front = numbered formula.clauses in
    let added = (fold log_after (log_start formula) steps).added in
    let many = spells_length store.live pairs searching.holds.spelled in
    let parts = ap length (live_parts formula steps searching.log) ∙ length-append front added in
    record {
      whole_formula = omega (arith, many, parts, length-enumerate_from 1 formula.clauses);
      spelled = subst (Spells store.live) (sym (take_all (length store.live) pairs (omega (arith, many)))) searching.holds.spelled;
    }

-- behind the last of the numbers nothing is lacked
pub searching_added : (formula : Cnf) (steps : List Step) (numbers : List ℕ) (store : StoreState) (trail : TrailState) (k : ℕ) → IsGoodLog formula steps → AreLiveSteps formula steps numbers → length numbers ≤ k
    → HoldsClauses store formula.vars (take (length formula.clauses + k) (live_after formula steps)) (length formula.clauses + additions steps) → IsSound store.live trail → trail.current ≡ 0 → IsSearching formula steps store trail
searching_added formula steps numbers store trail k log live most h sound level =
    let pairs = live_after formula steps in
    record {
      holds = subst (λ (ps : Live). HoldsClauses store formula.vars ps (length formula.clauses + additions steps)) (take_all (length formula.clauses + k) pairs (omega (arith, length-live formula steps numbers log live, most))) h;
      log = log;
      on_course = record { sound = sound; closed_below = λ other least below. absurd (omega (arith, least, below, level)) };
    }

-- back at level 0 it is behind as before
pub behind_back : (formula : Cnf) (steps : List Step) (old new : StoreState) (before trail : TrailState) → IsBehind formula steps old before → new ≡ old → IsSound old.live trail → trail.current ≡ 0 → IsBehind formula steps new trail
behind_back formula steps old new before trail behind same sound level = subst (λ (s : StoreState). IsBehind formula steps s trail) (sym same) (record {
  store_vars = behind.store_vars;
  no_tail = behind.no_tail;
  first = behind.first;
  count = behind.count;
  on_course = record { sound = sound; closed_below = λ other least below. absurd (omega (arith, least, below, level)) };
})

-- additions leave in front what was live
live_grown : (formula : Cnf) (steps more : List Step) → list_all is_addition more ≡ true → live_after formula (steps ++ more) ≡ live_after formula steps ++ map pair_of more
live_grown formula steps more all =
    ap (λ (state : LogState). state.live) (fold-append log_after (log_start formula) steps more) ∙ added (fold log_after (log_start formula) steps) more all

-- so the first of it stays the first
pub first_grown : (formula : Cnf) (steps more : List Step) (live : List LiveClause) → list_all is_addition more ≡ true → HoldsFirst formula steps live → HoldsFirst formula (steps ++ more) live
first_grown formula steps more live all h =
    let pairs = live_after formula steps in
    let n = length live in
    let most : n ≤ length pairs = omega (arith, spells_length live (take n pairs) h.spelled, length-take n pairs) in
    let same : take n (live_after formula (steps ++ more)) ≡ take n pairs = ap (take n) (live_grown formula steps more all) ∙ take-append-le n pairs (map pair_of more) most in
    record { whole_formula = h.whole_formula; spelled = subst (Spells live) (sym same) h.spelled }

pub behind_grown : (formula : Cnf) (steps more : List Step) (store : StoreState) (trail : TrailState) → list_all is_addition more ≡ true → IsBehind formula steps store trail → IsBehind formula (steps ++ more) store trail
behind_grown formula steps more store trail all behind = record {
  store_vars = behind.store_vars;
  no_tail = behind.no_tail;
  first = first_grown formula steps more store.live all behind.first;
  count = behind.count;
  on_course = behind.on_course;
}

-- a searcher that lacks nothing may come to lack something
pub behind_searching : (formula : Cnf) (steps : List Step) (store : StoreState) (trail : TrailState) → IsSearching formula steps store trail → IsBehind formula steps store trail
behind_searching formula steps store trail searching = record {
  store_vars = searching.holds.store_vars;
  no_tail = searching.holds.no_tail;
  first = first_searching formula steps store trail searching;
  count = searching.holds.count ∙ sym (spells_length store.live (live_after formula steps) searching.holds.spelled);
  on_course = searching.on_course;
}
