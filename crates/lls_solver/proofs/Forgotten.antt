-- A search goes on where marked clauses are taken out, and the others are numbered anew.
use Rattle.std.proofs.Common.{◌≡◌, ◌≢◌, inl, inr, ℕ, zero, suc, ◌+◌, ◌<◌, ◌≤◌, Bool, true, false, not, cond, List, [], ◌∷◌, ◌++◌, length, length-append, get_or, map, Some, is_some, refl, sym, ap, subst, ◌∙◌, arith}
use Rattle.std.specs.Prelude.{ℤ, All, AllPairs, Contains, filter, fold, ◌||◌, ◌&&◌, ◌==◌, ◌-◌, ◌/◌, nat_le, nat_lt, ◌↔◌, IsTrue}
use Rattle.std.specs.List.{list_any, list_all}
use Rattle.std.specs.Ordering.{int_eq}
use Rattle.std.proofs.lemmas.Bool.{and_from, cases_order, eq-eqb, le-leb, leb-true, ne_eqb}
use Rattle.std.proofs.lemmas.List.{get_or_default}
use Rattle.std.proofs.lemmas.Bool.Decides.{nat_tests}
use Rattle.std.proofs.lemmas.List.Folds.{list_all-append}
use Rattle.std.proofs.lemmas.List.Sums.{count_by-le-length, length-filter, sum_by-append, take_while-cons}
use Rattle.std.proofs.lemmas.List.Elements.{All-contains, All-filter, All-map}
use Rattle.std.proofs.lemmas.List.FromFn.{length-enumerate_from}
use Rattle.std.proofs.lemmas.Option.{same_Some}
use Rattle.lls_lit.specs.Formula.{Clause, Cnf}
use Rattle.lls_lit.specs.Literal.{negation}
use Rattle.lls_prooflog.specs.UnitWalk.{Live, numbered, find_clause}
use Rattle.lls_prooflog.specs.Steps.{after, is_empty_addition}
use Rattle.lls_prooflog.specs.Spent.{LogState, log_start, log_after, live_after, IsGood, IsFreshAddition, IsLateDeletion, is_addition}
use Rattle.lls_prooflog.specs.declared.step.Step.{Step}
use Rattle.lls_prooflog.specs.declared.step.Step.TheVariants.{Add, Del}
use Rattle.lls_store.specs.declared.store.TheConstants.{MOST_ID}
use Rattle.lls_store.specs.Trail.{Entry, TrailState, has}
use Rattle.lls_store.specs.Clauses.{LiveClause, Literals}
use Rattle.lls_store.specs.Closed.{IsSettled, satisfied, two_left, entries_below}
use Rattle.lls_store.specs.Sound.{IsSound}
use Rattle.lls_store.specs.Store.{StoreState, AreLive}
use Rattle.lls_store.specs.Removal.{compacted, renamed, renamed_entry, renumbered}
use Rattle.lls_store.proofs.Live.{clause_numbered-contained}
use Rattle.lls_analyse.specs.Spelled.{Spells}
use Rattle.lls_order.specs.Order.{OrderState}
use Rattle.lls_solver.specs.Course.{AreClosedBelow, AreWaiting}
use Rattle.lls_solver.specs.Deletion.{AreAllLive, is_marked, ids_marked, marked_of, without_marked, IsLate, MayGo}
use Rattle.lls_solver.specs.Searching.{additions, ids_of, AreAscending, AreNumberedFrom, HoldsClauses, IsGoodLog, IsSearching}
use Rattle.lls_solver.specs.Sharing.{added_after}
use Rattle.lls_solver.proofs.Logs.{additions-cons, each_push, found_added, live_after-push, live_parts}

-- whether the id is one of these
abbrev pub is_named : List ℕ → ℕ → Bool
is_named ids id = list_any (λ i. i == id) ids

-- the clauses without the marked ones
abbrev pub kept_of : List Bool → List LiveClause → List LiveClause
kept_of marks live = filter (λ clause. not (is_marked marks clause.number)) live

there : {X : Type 0} (x y : X) (xs : List X) → Contains xs y → Contains (x ∷ xs) y
there x y xs c = (suc c.0, omega (arith, c.1), c.2)

here : {X : Type 0} (x : X) (xs : List X) → Contains (x ∷ xs) x
here x xs = (0, omega arith, refl)

or_true : (b : Bool) → (b || true) ≡ true
or_true true = refl
or_true false = refl

-- an id of a clause that is marked is named
named : (live : List LiveClause) (marks : List Bool) (clause : LiveClause) → Contains live clause → is_marked marks clause.number ≡ true → is_named (ids_marked marks live) clause.id ≡ true
named [] marks clause contains is = absurd (omega (arith, contains.1))
named (x ∷ xs) marks clause (zero, lt, same) is =
    let marked : is_marked marks x.number ≡ true = ap (λ (c : LiveClause). is_marked marks c.number) same ∙ is in
    ap (λ b. is_named (map (λ (c : LiveClause). c.id) (cond b (x ∷ marked_of marks xs) (marked_of marks xs))) clause.id) marked
    ∙ ap (λ b. b || is_named (ids_marked marks xs) clause.id) (eq-eqb x.id clause.id (ap (λ (c : LiveClause). c.id) same))
named (x ∷ xs) marks clause (suc k, lt, same) is =
    let rest = named xs marks clause (k, omega (arith, lt), same) is in
    elim (is_marked marks x.number) as (λ b. is_named (map (λ (c : LiveClause). c.id) (cond b (x ∷ marked_of marks xs) (marked_of marks xs))) clause.id ≡ true) [
      | true ↦ ap (λ b. (x.id == clause.id) || b) rest ∙ or_true (x.id == clause.id)
      | false ↦ rest
    ]

-- where no clause of the id is marked, it isn't named
unnamed : (live : List LiveClause) (marks : List Bool) (id : ℕ) → ((x : LiveClause) → Contains live x → x.id ≡ id → is_marked marks x.number ≡ false) → is_named (ids_marked marks live) id ≡ false
unnamed [] marks id none = refl
unnamed (x ∷ xs) marks id none =
    let rest = unnamed xs marks id (λ y contains. none y (there x y xs contains)) in
    elim (is_marked marks x.number) as (λ b. is_marked marks x.number ≡ b → is_named (map (λ (c : LiveClause). c.id) (cond b (x ∷ marked_of marks xs) (marked_of marks xs))) id ≡ false) [
      | true ↦ λ marked. ap (λ b. b || is_named (ids_marked marks xs) id) (ne_eqb x.id id (λ same. clash (sym marked ∙ none x (here x xs) same))) ∙ rest
      | false ↦ λ _. rest
    ] refl where
      clash : true ≡ false → ⊥
      clash is = absurd cc

-- clauses of one id have one number
same_number : (live : List LiveClause) (x y : LiveClause) → AllPairs (λ (a b : LiveClause). a.id ≢ b.id) live → Contains live x → Contains live y → x.id ≡ y.id → x.number ≡ y.number
same_number live x y apart (i, in_x, is_x) (j, in_y, is_y) same =
    let at_y : get_or live j x ≡ y = get_or_default live j x y in_y ∙ is_y in
    let id : LiveClause → ℕ = λ c. c.id in
    elim (cases_order i j) [
      | inl equal ↦ ap (λ (c : LiveClause). c.number) (sym is_x ∙ ap (λ k. get_or live k x) equal ∙ at_y)
      | inr (inl less) ↦ absurd (apart i j x less in_y (ap id is_x ∙ same ∙ sym (ap id at_y)))
      | inr (inr more) ↦ absurd (apart j i x more in_x (ap id at_y ∙ sym same ∙ sym (ap id is_x)))
    ]

-- a live clause is marked exactly where its id is named
pub marked_named : (live : List LiveClause) (marks : List Bool) (clause : LiveClause) → AllPairs (λ (a b : LiveClause). a.id ≢ b.id) live → Contains live clause → is_marked marks clause.number ≡ is_named (ids_marked marks live) clause.id
marked_named live marks clause apart contains =
    elim (is_marked marks clause.number) as (λ b. is_marked marks clause.number ≡ b → b ≡ is_named (ids_marked marks live) clause.id) [
      | true ↦ λ is. sym (named live marks clause contains is)
      | false ↦ λ is. sym (unnamed live marks clause.id (λ x in_live same. ap (is_marked marks) (same_number live x clause apart in_live contains same) ∙ is))
    ] refl

-- so it stays exactly where it isn't
stays : (live : List LiveClause) (marks : List Bool) (clause : LiveClause) → AllPairs (λ (a b : LiveClause). a.id ≢ b.id) live → Contains live clause → not (is_marked marks clause.number) ≡ not (is_named (ids_marked marks live) clause.id)
stays live marks clause apart contains = ap not (marked_named live marks clause apart contains)

-- what is kept of both by one test is spelled still
pub spells_filter : (live : List LiveClause) (pairs : Live) (keep : LiveClause → Bool) (keeps : ℕ → Bool) → ((clause : LiveClause) → Contains live clause → keep clause ≡ keeps clause.id) → Spells live pairs → Spells (filter keep live) (filter (λ (pair : ℕ × Clause). keeps pair.0) pairs)
spells_filter [] [] keep keeps same h = tt
spells_filter [] (pair ∷ pairs) keep keeps same h = absurd h
spells_filter (clause ∷ live) [] keep keeps same h = absurd h
spells_filter (clause ∷ live) (pair ∷ pairs) keep keeps same h =
    let rest = spells_filter live pairs keep keeps (λ c contains. same c (there clause c live contains)) h.1.1 in
    let one : keep clause ≡ keeps pair.0 = same clause (here clause live) ∙ ap keeps (sym h.0) in
    subst (λ b. Spells (cond b (clause ∷ filter keep live) (filter keep live)) (cond (keeps pair.0) (pair ∷ filter (λ (p : ℕ × Clause). keeps p.0) pairs) (filter (λ (p : ℕ × Clause). keeps p.0) pairs))) (sym one)
    (elim (keeps pair.0) as (λ b. Spells (cond b (clause ∷ filter keep live) (filter keep live)) (cond b (pair ∷ filter (λ (p : ℕ × Clause). keeps p.0) pairs) (filter (λ (p : ℕ × Clause). keeps p.0) pairs))) [
      | true ↦ (h.0, (h.1.0, rest))
      | false ↦ rest
    ])

pub spells_renumbered : (all live : List LiveClause) (pairs : Live) → Spells live pairs → Spells (map (renumbered all) live) pairs
spells_renumbered all [] [] h = tt
spells_renumbered all [] (pair ∷ pairs) h = absurd h
spells_renumbered all (clause ∷ live) [] h = absurd h
spells_renumbered all (clause ∷ live) (pair ∷ pairs) h = (h.0, (h.1.0, spells_renumbered all live pairs h.1.1))

pub spells_length : (live : List LiveClause) (pairs : Live) → Spells live pairs → length live ≡ length pairs
spells_length [] [] h = refl
spells_length [] (pair ∷ pairs) h = absurd h
spells_length (clause ∷ live) [] h = absurd h
spells_length (clause ∷ live) (pair ∷ pairs) h = omega (arith, spells_length live pairs h.1.1)

pub ascending_from : (less least : ℕ) (ids : List ℕ) (bound : ℕ) → less ≤ least → AreAscending least ids bound → AreAscending less ids bound
ascending_from less least [] bound le h = omega (arith, le, h)
ascending_from less least (id ∷ ids) bound le h = (omega (arith, le, h.0), h.1)

pub ascending_filter : (keeps : ℕ × Clause → Bool) (least : ℕ) (pairs : Live) (bound : ℕ) → AreAscending least (ids_of pairs) bound → AreAscending least (ids_of (filter keeps pairs)) bound
ascending_filter keeps least [] bound h = h
ascending_filter keeps least (pair ∷ pairs) bound h =
    let rest = ascending_filter keeps (pair.0 + 1) pairs bound h.1 in
    elim (keeps pair) as (λ b. AreAscending least (ids_of (cond b (pair ∷ filter keeps pairs) (filter keeps pairs))) bound) [
      | true ↦ (h.0, rest)
      | false ↦ ascending_from least (pair.0 + 1) (ids_of (filter keeps pairs)) bound (omega (arith, h.0)) rest
    ]

-- the store has what is live behind the deletion
holds_forgotten : (store : StoreState) (marks : List Bool) (vars : ℕ) (pairs : Live) (last : ℕ) → AreLive store → HoldsClauses store vars pairs last → HoldsClauses (compacted (without_marked store marks)) vars (after pairs (Del (ids_marked marks store.live))) last
holds_forgotten store marks vars pairs last live h =
    let ids = ids_marked marks store.live in
    let kept = spells_filter store.live pairs (λ clause. not (is_marked marks clause.number)) (λ id. not (is_named ids id)) (λ clause contains. stays store.live marks clause live.ids contains) h.spelled in
    record {
      store_vars = h.store_vars;
      no_tail = h.no_tail;
      spelled = spells_renumbered (kept_of marks store.live) (kept_of marks store.live) (filter (λ (pair : ℕ × Clause). not (is_named ids pair.0)) pairs) kept;
      count = spells_length (kept_of marks store.live) (filter (λ (pair : ℕ × Clause). not (is_named ids pair.0)) pairs) kept;
      ids = ascending_filter (λ (pair : ℕ × Clause). not (is_named ids pair.0)) 1 pairs (last + 1) h.ids;
    }

has_renamed : (live : List LiveClause) (es : List Entry) (l : ℤ) → has (map (renamed_entry live) es) l ≡ has es l
has_renamed live [] l = refl
has_renamed live (x ∷ xs) l = ap (λ b. int_eq x.lit l || b) (has_renamed live xs l)

-- what has no value now had none before
pub waiting_renamed : (live : List LiveClause) (old new : TrailState) (order : OrderState) → new ≡ renamed live old → AreWaiting old.entries order → AreWaiting new.entries order
waiting_renamed live old new order is waiting l of_order unset =
    let entries : new.entries ≡ map (renamed_entry live) old.entries = ap (λ (t : TrailState). t.entries) is in
    let same : (m : ℤ) → has new.entries m ≡ has old.entries m = λ m. ap (λ (es : List Entry). has es m) entries ∙ has_renamed live old.entries m in
    waiting l of_order (record { not_true = λ is_true. unset.not_true (same l ∙ is_true); not_false = λ is_false. unset.not_false (same (negation l) ∙ is_false) })

below_renamed : (live : List LiveClause) (level : ℕ) (es : List Entry) → entries_below level (map (renamed_entry live) es) ≡ map (renamed_entry live) (entries_below level es)
below_renamed live level [] = refl
below_renamed live level (x ∷ xs) =
    let f = renamed_entry live in
    take_while-cons (λ (e : Entry). nat_lt e.level level) (f x) (map f xs)
    ∙ ap (λ (rest : List Entry). cond (nat_lt x.level level) (f x ∷ rest) []) (below_renamed live level xs)
    ∙ either (nat_lt x.level level)
    ∙ ap (map f) (sym (take_while-cons (λ (e : Entry). nat_lt e.level level) x xs)) where
      either : (b : Bool) → cond b (renamed_entry live x ∷ map (renamed_entry live) (entries_below level xs)) [] ≡ map (renamed_entry live) (cond b (x ∷ entries_below level xs) [])
      either true = refl
      either false = refl

settled_renamed : (live : List LiveClause) (es : List Entry) (lits : Literals) → IsSettled es lits → IsSettled (map (renamed_entry live) es) lits
settled_renamed live es lits (satisfied l is_in is_true) = satisfied l is_in (has_renamed live es l ∙ is_true)
settled_renamed live es lits (two_left l m in_l in_m apart l_left m_left) =
    two_left l m in_l in_m apart (λ negated. l_left (sym (has_renamed live es (negation l)) ∙ negated)) (λ negated. m_left (sym (has_renamed live es (negation m)) ∙ negated))

-- propagation had nothing to do below each level, and has none with clauses fewer
pub closed_below_forgotten : (live all : List LiveClause) (keep : LiveClause → Bool) (trail : TrailState) → AreClosedBelow live trail → AreClosedBelow (map (renumbered all) (filter keep live)) (renamed all trail)
closed_below_forgotten live all keep trail closed level least most =
    let below = entries_below level trail.entries in
    let P : LiveClause → Type 0 = λ clause. IsSettled (entries_below level (map (renamed_entry all) trail.entries)) clause.lits in
    let each : All P live = λ k d lt. subst (λ (es : List Entry). IsSettled es (get_or live k d).lits) (sym (below_renamed all level trail.entries)) (settled_renamed all below (get_or live k d).lits (closed level least most (get_or live k d) (k, lt, get_or_default live k (get_or live k d) d lt))) in
    let kept : All P (map (renumbered all) (filter keep live)) = All-map P (renumbered all) (filter keep live) (All-filter keep P live each) in
    λ clause contains. All-contains P (map (renumbered all) (filter keep live)) clause kept contains

pub additions-deleted : (steps : List Step) (ids : List ℕ) → additions (steps ++ Del ids ∷ []) ≡ additions steps
additions-deleted steps ids = sum_by-append (λ s. cond (is_addition s) 1 0) steps (Del ids ∷ []) ∙ omega arith

numbered_deleted : (n : ℕ) (steps : List Step) (ids : List ℕ) → AreNumberedFrom n steps → AreNumberedFrom n (steps ++ Del ids ∷ [])
numbered_deleted n [] ids h = tt
numbered_deleted n (Del named ∷ steps) ids h = numbered_deleted n steps ids h
numbered_deleted n (Add id lits hints ∷ steps) ids h = (h.0, numbered_deleted (n + 1) steps ids h.1)

-- the ids of marked clauses, each of which passes a test that they pass
pub all_marked : (live : List LiveClause) (marks : List Bool) (p : ℕ → Bool) → ((clause : LiveClause) → Contains live clause → is_marked marks clause.number ≡ true → p clause.id ≡ true) → list_all p (ids_marked marks live) ≡ true
all_marked [] marks p each = refl
all_marked (x ∷ xs) marks p each =
    let rest = all_marked xs marks p (λ clause contains. each clause (there x clause xs contains)) in
    elim (is_marked marks x.number) as (λ b. is_marked marks x.number ≡ b → list_all p (map (λ (c : LiveClause). c.id) (cond b (x ∷ marked_of marks xs) (marked_of marks xs))) ≡ true) [
      | true ↦ λ is. and_from (p x.id) (list_all p (ids_marked marks xs)) (each x (here x xs) is) rest
      | false ↦ λ _. rest
    ] refl

-- a clause of the store is found among those of the log
spells_found : (live : List LiveClause) (pairs : Live) (clause : LiveClause) → Spells live pairs → Contains live clause → is_some (find_clause pairs clause.id) ≡ true
spells_found [] pairs clause h contains = absurd (omega (arith, contains.1))
spells_found (x ∷ xs) [] clause h contains = absurd h
spells_found (x ∷ xs) (pair ∷ pairs) clause h (zero, lt, same) =
    ap (λ b. is_some (cond b (Some pair.1) (find_clause pairs clause.id))) (eq-eqb pair.0 clause.id (h.0 ∙ ap (λ (c : LiveClause). c.id) same))
spells_found (x ∷ xs) (pair ∷ pairs) clause h (suc k, lt, same) =
    let rest = spells_found xs pairs clause h.1.1 (k, omega (arith, lt), same) in
    elim (pair.0 == clause.id) as (λ b. is_some (cond b (Some pair.1) (find_clause pairs clause.id)) ≡ true) [ true ↦ refl | false ↦ rest ]

-- a marked clause was learnt
learnt_marked : (live : List LiveClause) (reasons : List Bool) (last : ℕ) (marks : List Bool) (clause : LiveClause) → AllPairs (λ (a b : LiveClause). a.number < b.number) live → ((c : ℕ) → is_marked marks c ≡ true → MayGo live reasons last c) → Contains live clause → is_marked marks clause.number ≡ true → last < clause.id
learnt_marked live reasons last marks clause rising may contains is =
    let goes = may clause.number is in
    let same : goes.clause ≡ clause = same_Some goes.clause clause (sym goes.is_live ∙ clause_numbered-contained live clause rising contains) in
    subst (λ (c : LiveClause). last < c.id) same goes.learnt

pub good_forgotten : (formula : Cnf) (steps : List Step) (store : StoreState) (reasons marks : List Bool) (last : ℕ) → AreLive store → HoldsClauses store formula.vars (live_after formula steps) last → IsGoodLog formula steps → IsLate formula steps
    → ((c : ℕ) → is_marked marks c ≡ true → MayGo store.live reasons (length formula.clauses) c) → IsGoodLog formula (steps ++ Del (ids_marked marks store.live) ∷ [])
good_forgotten formula steps store reasons marks last live holds log late may =
    let ids = ids_marked marks store.live in
    let state = fold log_after (log_start formula) steps in
    let added : list_all (λ id. is_some (find_clause state.added id)) ids ≡ true = all_marked store.live marks (λ id. is_some (find_clause state.added id)) (λ clause contains is.
    found_added formula steps clause.id log (learnt_marked store.live reasons (length formula.clauses) marks clause live.numbers may contains is) (spells_found store.live (live_after formula steps) clause holds.spelled contains)) in
    record {
      numbered_on = numbered_deleted (length formula.clauses + 1) steps ids log.numbered_on;
      good = each_push IsGood (log_start formula) steps (Del ids) log.good tt;
      fresh = each_push (IsFreshAddition formula.vars) (log_start formula) steps (Del ids) log.fresh tt;
      deletions = each_push IsLateDeletion (log_start formula) steps (Del ids) log.deletions (record { added_alone = added; late = late });
      none_empty = list_all-append (λ step. not (is_empty_addition step)) steps (Del ids ∷ []) ∙ and_from (list_all (λ step. not (is_empty_addition step)) steps) true log.none_empty refl;
    }

-- no more clauses are left
pub count_forgotten : (store : StoreState) (marks : List Bool) → AreAllLive store → (compacted (without_marked store marks)).count ≤ store.count
count_forgotten store marks all =
    let keep : LiveClause → Bool = λ clause. not (is_marked marks clause.number) in
    omega (arith, all, length-filter keep store.live, count_by-le-length keep store.live)

pub all_live : (store : StoreState) (vars : ℕ) (pairs : Live) (last : ℕ) → HoldsClauses store vars pairs last → AreAllLive store
all_live store vars pairs last h = h.count ∙ sym (spells_length store.live pairs h.spelled)

-- ids of live clauses are in range
pub ids_in_range : (store : StoreState) (marks : List Bool) → AreLive store → list_all (λ n. nat_le 1 n && nat_le n MOST_ID) (ids_marked marks store.live) ≡ true
ids_in_range store marks live = all_marked store.live marks (λ n. nat_le 1 n && nat_le n MOST_ID) (λ clause contains _.
    let fits = All-contains (λ (c : LiveClause). (1 ≤ c.id) × (c.id ≤ MOST_ID)) store.live clause live.ids_fit contains in
    in_range clause.id fits.0 fits.1) where
      in_range : (n : ℕ) → 1 ≤ n → n ≤ MOST_ID → (nat_le 1 n && nat_le n MOST_ID) ≡ true
      in_range n least most = and_from (nat_le 1 n) (nat_le n MOST_ID) (grind (arith, nat_tests)) (grind (arith, nat_tests))

-- the steps are additions and deletions
steps_counted : (state : LogState) (steps : List Step) → state.deletions + length steps ≡ (fold log_after state steps).deletions + additions steps
steps_counted state [] = omega arith
steps_counted state (Add id lits hints ∷ steps) = omega (arith, steps_counted (log_after state (Add id lits hints)) steps, additions-cons (Add id lits hints) steps)
steps_counted state (Del ids ∷ steps) = omega (arith, steps_counted (log_after state (Del ids)) steps, additions-cons (Del ids) steps)

-- how many clauses of the log are live beside the formula's
pub learnt_counted : (formula : Cnf) (steps : List Step) → IsGoodLog formula steps → length (live_after formula steps) ≡ length formula.clauses + length (fold log_after (log_start formula) steps).added
learnt_counted formula steps log =
    ap length (live_parts formula steps log) ∙ length-append (numbered formula.clauses) (fold log_after (log_start formula) steps).added ∙ ap (λ n. n + length (fold log_after (log_start formula) steps).added) (length-enumerate_from 1 formula.clauses)

-- and whether they are so many that a deletion may come
pub late_exactly : (formula : Cnf) (steps : List Step) (learnt many adds : ℕ) → learnt ≡ length (added_after formula steps) → many ≡ length steps → adds ≡ additions steps
    → 64 ≤ learnt → IsTrue (nat_le (many - adds) ((learnt - 64) / 64)) ↔ IsLate formula steps
late_exactly formula steps learnt many adds learnt_is many_is adds_is least =
    let counted = steps_counted (log_start formula) steps in (
      λ is. let few = leb-true (many - adds) ((learnt - 64) / 64) is in omega (arith, learnt_is, many_is, adds_is, least, few, counted),
      λ late. le-leb (many - adds) ((learnt - 64) / 64) (omega (arith, learnt_is, many_is, adds_is, least, late, counted)),
    )

-- a search goes on over the clauses that are left
pub searching_forgotten : (formula : Cnf) (steps : List Step) (store : StoreState) (trail : TrailState) (reasons marks : List Bool) → AreLive store → IsSearching formula steps store trail → IsLate formula steps
    → ((c : ℕ) → is_marked marks c ≡ true → MayGo store.live reasons (length formula.clauses) c)
    → IsSound (compacted (without_marked store marks)).live (renamed (without_marked store marks).live trail)
    → IsSearching formula (steps ++ Del (ids_marked marks store.live) ∷ []) (compacted (without_marked store marks)) (renamed (without_marked store marks).live trail)
searching_forgotten formula steps store trail reasons marks live h late may sound =
    let ids = ids_marked marks store.live in
    let new = compacted (without_marked store marks) in
    let last = length formula.clauses + additions steps in
    let holds : HoldsClauses new formula.vars (after (live_after formula steps) (Del ids)) last = holds_forgotten store marks formula.vars (live_after formula steps) last live h.holds in
    record {
      holds = subst (λ n. HoldsClauses new formula.vars (live_after formula (steps ++ Del ids ∷ [])) n) (ap (λ n. length formula.clauses + n) (sym (additions-deleted steps ids)))
          (subst (λ (ps : Live). HoldsClauses new formula.vars ps last) (sym (live_after-push formula steps (Del ids))) holds);
      log = good_forgotten formula steps store reasons marks last live h.holds h.log late may;
      on_course = record {
        sound = sound;
        closed_below = closed_below_forgotten store.live (without_marked store marks).live (λ clause. not (is_marked marks clause.number)) trail h.on_course.closed_below;
      };
    }
