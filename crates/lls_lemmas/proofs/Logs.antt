-- A log that grows by good steps, and the clauses that are live behind it.
use Rattle.std.proofs.Common.{◌≡◌, ◌≢◌, ℕ, ◌+◌, ◌≤◌, ◌<◌, true, false, cond, List, [], ◌∷◌, ◌++◌, length, Option, Some, None, is_some, refl, sym, ap, subst, ◌∙◌, inl, inr, arith, append_assoc}
use Rattle.std.specs.Prelude.{ℤ, fold, Contains, ◌==◌}
use Rattle.std.specs.List.{list_all}
use Rattle.std.specs.FinSet as set
use Rattle.std.specs.Cmp.Derive.{both_true}
use Rattle.std.proofs.lemmas.Bool.{and_parts, ne_eqb, eq-eqb}
use Rattle.std.proofs.lemmas.Bool.Decides.{nat_tests}
use Rattle.std.proofs.lemmas.List.{append-nil}
use Rattle.std.proofs.lemmas.List.Elements.{Contains-push_cases}
use Rattle.lls_lit.specs.Formula.{Clause, Cnf}
use Rattle.lls_prooflog.specs.UnitWalk.{Live, find_clause, unit_walk, walk_on}
use Rattle.lls_prooflog.specs.Rat.{groups_of, rat_fault}
use Rattle.lls_prooflog.specs.Range.{is_id, is_hint, IsInRange}
use Rattle.lls_prooflog.specs.Steps.{KeepsSatisfiable, after, fault_of}
use Rattle.lls_prooflog.specs.Spent.{LogState, EachStep, IsGood, is_positive, log_start, log_after, live_after}
use Rattle.lls_prooflog.specs.declared.step.Step.{Step}
use Rattle.lls_prooflog.specs.declared.step.Step.TheVariants.{Add, Del}
use Rattle.lls_prooflog.specs.declared.step_fault.StepFault.TheVariants.{IdLive}
use Rattle.lls_prooflog.proofs.Soundness.{fault_of_good}
use Rattle.lls_prooflog.proofs.Walks.{walk_closes}
use Rattle.lls_store.specs.declared.store.TheConstants.{MOST_ID}
use Rattle.lls_store.specs.Clauses.{LiveClause}
use Rattle.lls_store.specs.Store.{StoreState, IsNewId, with_clause}
use Rattle.lls_analyse.specs.Spelled.{Spells}
use Rattle.lls_analyse.proofs.Gathering.{later}
use Rattle.lls_lemmas.specs.Lemmas.{AddsLemma, AddsUnit, AddsUnits, AreRising, GoesOnBy, GoesOnWell, HasNoFault, KeepsLive, last_id}
use Rattle.lls_lemmas.specs.Behind.{GivesClause, Grows, HoldsLive, PushesLemma}
use Rattle.lls_lemmas.specs.Closing.{is_id_hint}
use Rattle.lls_lemmas.specs.Pivot.{AddsClause}
use Rattle.lls_lemmas.proofs.Listing.{among-from_Contains}

fold-append : {X S : Type 0} (f : S → X → S) (s : S) (xs ys : List X) → fold f s (xs ++ ys) ≡ fold f (fold f s xs) ys
fold-append f s [] ys = refl
fold-append f s (x ∷ xs) ys = fold-append f (f s x) xs ys

pub live_after-push : (formula : Cnf) (steps : List Step) (step : Step) → live_after formula (steps ++ step ∷ []) ≡ after (live_after formula steps) step
live_after-push formula steps step = ap (λ (state : LogState). state.live) (fold-append log_after (log_start formula) steps (step ∷ []))

each-append : (P : LogState → Step → Type 0) (state : LogState) (xs ys : List Step) → EachStep P state xs → EachStep P (fold log_after state xs) ys → EachStep P state (xs ++ ys)
each-append P state [] ys first second = second
each-append P state (x ∷ xs) ys first second = (first.0, each-append P (log_after state x) xs ys first.1 second)

pub each-weaker : (P Q : LogState → Step → Type 0) (state : LogState) (steps : List Step) → ((s : LogState) (step : Step) → P s step → Q s step) → EachStep P state steps → EachStep Q state steps
each-weaker P Q state [] weaker each = tt
each-weaker P Q state (x ∷ xs) weaker each = (weaker state x each.0, each-weaker P Q (log_after state x) xs weaker each.1)

pub well-none : (P : LogState → Step → Type 0) (formula : Cnf) (steps : List Step) → GoesOnBy P formula steps steps
well-none P formula steps = record { more = []; follows = sym (append-nil steps); each = tt }

pub well-one : (P : LogState → Step → Type 0) (formula : Cnf) (steps : List Step) (step : Step) → P (fold log_after (log_start formula) steps) step → GoesOnBy P formula steps (steps ++ step ∷ [])
well-one P formula steps step one = record { more = step ∷ []; follows = refl; each = (one, tt) }

pub well-then : (P : LogState → Step → Type 0) (formula : Cnf) (a b c : List Step) → GoesOnBy P formula a b → GoesOnBy P formula b c → GoesOnBy P formula a c
well-then P formula a b c first second =
    let behind : fold log_after (log_start formula) b ≡ fold log_after (fold log_after (log_start formula) a) first.more = ap (fold log_after (log_start formula)) first.follows ∙ fold-append log_after (log_start formula) a first.more in
    let Q : LogState → Type 0 = λ s. EachStep P s second.more in
    record {
      more = first.more ++ second.more;
      follows = second.follows ∙ ap (λ (xs : List Step). xs ++ second.more) first.follows ∙ append_assoc a first.more second.more;
      each = each-append P (fold log_after (log_start formula) a) first.more second.more first.each (subst Q behind second.each);
    }

pub goes-weaker : (P Q : LogState → Step → Type 0) (formula : Cnf) (old new : List Step) → ((s : LogState) (step : Step) → P s step → Q s step) → GoesOnBy P formula old new → GoesOnBy Q formula old new
goes-weaker P Q formula old new weaker g = record { more = g.more; follows = g.follows; each = each-weaker P Q (fold log_after (log_start formula) old) g.more weaker g.each }

-- nothing is wrong with steps that are good by unit propagation alone
pub well-by_propagation : (formula : Cnf) (old new : List Step) → GoesOnBy IsGood formula old new → GoesOnWell formula old new
well-by_propagation formula old new g = goes-weaker IsGood HasNoFault formula old new fault_of_good g

-- all steps are such where those before are
pub each-then : (P : LogState → Step → Type 0) (formula : Cnf) (old new : List Step) → EachStep P (log_start formula) old → GoesOnBy P formula old new → EachStep P (log_start formula) new
each-then P formula old new each well =
    let Q : List Step → Type 0 = λ steps. EachStep P (log_start formula) steps in
    subst Q (sym well.follows) (each-append P (log_start formula) old well.more each well.each)

pub grows-none : (formula : Cnf) (steps : List Step) → Grows formula steps steps
grows-none formula steps = record { well = well-none IsGood formula steps; units = well-none AddsUnit formula steps; stays = λ id clause found. found }

pub grows-then : (formula : Cnf) (a b c : List Step) → Grows formula a b → Grows formula b c → Grows formula a c
grows-then formula a b c first second = record { well = well-then IsGood formula a b c first.well second.well; units = well-then AddsUnit formula a b c first.units second.units; stays = λ id clause found. second.stays id clause (first.stays id clause found) }

-- one clause more, the empty clause or one of a literal
pub grows-one : (formula : Cnf) (old new : List Step) (id : ℕ) (lits : Clause) (hints : List ℤ) → new ≡ old ++ Add id lits hints ∷ [] → AddsUnit (fold log_after (log_start formula) old) (Add id lits hints) → GoesOnBy IsGood formula old new → KeepsLive formula old new → Grows formula old new
grows-one formula old new id lits hints follows short good keeps =
    let P : List Step → Type 0 = λ steps. AddsUnits formula old steps in
    record { well = good; units = subst P (sym follows) (well-one AddsUnit formula old (Add id lits hints) short); stays = keeps }

-- unit clauses, then the lemma, then unit clauses
pub adds_between : (formula : Cnf) (old before added new : List Step) (lits : Clause) → AddsUnits formula old before → PushesLemma before added lits → AddsUnits formula added new → AddsLemma formula old new lits
adds_between formula old before added new lits first pushes second =
    let P : List Step → Type 0 = λ steps. AddsUnits formula steps new in
    record { before = before; id = pushes.id; hints = pushes.hints; units_before = first; units_behind = subst P pushes.follows second }

-- ids that rise, with one more, or behind a deletion
pub rising-push : (n : ℕ) (steps : List Step) (id : ℕ) (lits : Clause) (hints : List ℤ) → AreRising n steps → last_id n steps < id → AreRising n (steps ++ Add id lits hints ∷ [])
rising-push n [] id lits hints rising lt = (lt, tt)
rising-push n (Add id' lits' hints' ∷ steps) id lits hints rising lt = (rising.0, rising-push id' steps id lits hints rising.1 lt)
rising-push n (Del ids ∷ steps) id lits hints rising lt = rising-push n steps id lits hints rising lt

pub last-push : (n : ℕ) (steps : List Step) (id : ℕ) (lits : Clause) (hints : List ℤ) → last_id n (steps ++ Add id lits hints ∷ []) ≡ id
last-push n [] id lits hints = refl
last-push n (Add id' lits' hints' ∷ steps) id lits hints = last-push id' steps id lits hints
last-push n (Del ids ∷ steps) id lits hints = last-push n steps id lits hints

pub rising-deletion : (n : ℕ) (steps : List Step) (ids : List ℕ) → AreRising n steps → AreRising n (steps ++ Del ids ∷ [])
rising-deletion n [] ids rising = tt
rising-deletion n (Add id lits hints ∷ steps) ids rising = (rising.0, rising-deletion id steps ids rising.1)
rising-deletion n (Del ids' ∷ steps) ids rising = rising-deletion n steps ids rising

pub last-deletion : (n : ℕ) (steps : List Step) (ids : List ℕ) → last_id n (steps ++ Del ids ∷ []) ≡ last_id n steps
last-deletion n [] ids = refl
last-deletion n (Add id lits hints ∷ steps) ids = last-deletion id steps ids
last-deletion n (Del ids' ∷ steps) ids = last-deletion n steps ids

-- a clause that is found stays found where one comes behind
find-kept : (live : Live) (id q : ℕ) (lits clause : Clause) → find_clause live q ≡ Some clause → find_clause (live ++ (id, lits) ∷ []) q ≡ Some clause
find-kept [] id q lits clause found = absurd cc
find-kept (p ∷ ps) id q lits clause found =
    elim (p.0 == q) as (λ b. cond b (Some p.1) (find_clause ps q) ≡ Some clause → cond b (Some p.1) (find_clause (ps ++ (id, lits) ∷ []) q) ≡ Some clause) [
      | true ↦ λ h. h
      | false ↦ λ h. find-kept ps id q lits clause h
    ] found

find-last : (live : Live) (id : ℕ) (lits : Clause) → find_clause live id ≡ None → find_clause (live ++ (id, lits) ∷ []) id ≡ Some lits
find-last [] id lits none = ap (λ b. cond b (Some lits) None) (eq-eqb id id refl)
find-last (p ∷ ps) id lits none =
    elim (p.0 == id) as (λ b. cond b (Some p.1) (find_clause ps id) ≡ None → cond b (Some p.1) (find_clause (ps ++ (id, lits) ∷ []) id) ≡ Some lits) [
      | true ↦ λ h. absurd cc
      | false ↦ λ h. find-last ps id lits h
    ] none

-- no list that spells the live clauses has a new id
pub new_id : (live : List LiveClause) (pairs : Live) (id : ℕ) → Spells live pairs → ((clause : LiveClause) → Contains live clause → clause.id ≢ id) → find_clause pairs id ≡ None
new_id [] [] id spells new = refl
new_id [] (p ∷ ps) id spells new = absurd spells
new_id (c ∷ cs) [] id spells new = absurd spells
new_id (c ∷ cs) (p ∷ ps) id spells new =
    ap (λ b. cond b (Some p.1) (find_clause ps id)) (ne_eqb p.0 id (λ same. new c (0, omega arith, refl) (sym spells.0 ∙ same)))
    ∙ new_id cs ps id spells.1.1 (λ clause inside. new clause (later c cs clause inside))

pub spells-push : (live : List LiveClause) (pairs : Live) (number id : ℕ) (lits : List ℤ) → Spells live pairs → Spells (live ++ record { number = number; id = id; lits = set.from_list lits } ∷ []) (pairs ++ (id, lits) ∷ [])
spells-push [] [] number id lits h = (refl, (refl, tt))
spells-push [] (pair ∷ pairs) number id lits h = absurd h
spells-push (clause ∷ live) [] number id lits h = absurd h
spells-push (clause ∷ live) (pair ∷ pairs) number id lits h = (h.0, (h.1.0, spells-push live pairs number id lits h.1.1))

-- hints that are ids are in range, and positive
pub id_hints : (hints : List ℤ) → list_all is_id_hint hints ≡ true → (list_all is_hint hints ≡ true) × (list_all is_positive hints ≡ true)
id_hints [] all = (refl, refl)
id_hints (h ∷ hs) all =
    let parts = and_parts (is_id_hint h) (list_all is_id_hint hs) all in
    let one = and_parts (is_hint h) (is_positive h) parts.0 in
    let rest = id_hints hs parts.1 in
    (both_true one.0 rest.0, both_true one.1 rest.1)

pub id_within : (n : ℕ) → 1 ≤ n → n ≤ 9223372036854775807 → is_id n ≡ true
id_within n low high = grind (arith, nat_tests)

pub adds_in_range : (id : ℕ) (lits hints : List ℤ) → 1 ≤ id → id ≤ MOST_ID → list_all is_hint hints ≡ true → IsInRange (Add id lits hints)
adds_in_range id lits hints low high all = both_true (id_within id low high) all

pub new_next : (formula : Cnf) (steps : List Step) (store : StoreState) (last : ℕ) → HoldsLive formula steps store last → last < MOST_ID → IsNewId store.live (last + 1)
new_next formula steps store last holds lt = record { least = omega arith; most = omega (arith, lt); new = λ clause inside same. omega (arith, holds.ids clause inside, same) }

-- hints that lead to a clause by unit propagation add it
pub adds_by_propagation : (live : List LiveClause) (lits hints : List ℤ) → GivesClause live lits hints → AddsClause live lits hints
adds_by_propagation live lits hints gives = λ pairs spells. walk_closes pairs (rat_fault pairs lits (groups_of hints)) lits hints (gives pairs lits spells (λ l inside. among-from_Contains lits l inside))

-- one clause more, which hints add
module _ (formula : Cnf) (steps : List Step) (store : StoreState) (last : ℕ) (lits hints : List ℤ) (holds : HoldsLive formula steps store last) (adds : AddsClause store.live lits hints) where
  next_new : find_clause (live_after formula steps) (last + 1) ≡ None
  next_new = new_id store.live (live_after formula steps) (last + 1) holds.spelled (λ clause inside same. omega (arith, holds.ids clause inside, same))

  pub adds_no_fault : fault_of (live_after formula steps) (Add (last + 1) lits hints) ≡ None
  adds_no_fault =
      let live = live_after formula steps in
      ap (λ (o : Option Clause). cond (is_some o) (Some (IdLive (last + 1))) (walk_on live (rat_fault live lits (groups_of hints)) lits hints)) next_new ∙ adds live holds.spelled

  pub adds_well : GoesOnWell formula steps (steps ++ Add (last + 1) lits hints ∷ [])
  adds_well = well-one HasNoFault formula steps (Add (last + 1) lits hints) adds_no_fault

  pub adds_keeps : KeepsLive formula steps (steps ++ Add (last + 1) lits hints ∷ [])
  adds_keeps = λ id clause found. ap (λ (live : Live). find_clause live id) (live_after-push formula steps (Add (last + 1) lits hints)) ∙ find-kept (live_after formula steps) (last + 1) id lits clause found

  -- by unit propagation alone, where the hints lead to it so
  pub adds_good : GivesClause store.live lits hints → list_all is_id_hint hints ≡ true → GoesOnBy IsGood formula steps (steps ++ Add (last + 1) lits hints ∷ [])
  adds_good gives all =
      let live = live_after formula steps in
      let walk = gives live lits holds.spelled (λ l inside. among-from_Contains lits l inside) in
      well-one IsGood formula steps (Add (last + 1) lits hints) (record {
        positive = (id_hints hints all).1;
        good = ap (λ (o : Option Clause). cond (is_some o) (Some (IdLive (last + 1))) (unit_walk live lits hints)) next_new ∙ walk;
      })

  pub adds_found : find_clause (live_after formula (steps ++ Add (last + 1) lits hints ∷ [])) (last + 1) ≡ Some lits
  adds_found = ap (λ (live : Live). find_clause live (last + 1)) (live_after-push formula steps (Add (last + 1) lits hints)) ∙ find-last (live_after formula steps) (last + 1) lits next_new

  pub adds_holds : KeepsSatisfiable formula (live_after formula (steps ++ Add (last + 1) lits hints ∷ [])) → HoldsLive formula (steps ++ Add (last + 1) lits hints ∷ []) (with_clause store (last + 1) lits) (last + 1)
  adds_holds kept =
      let P : Live → Type 0 = λ pairs. Spells (with_clause store (last + 1) lits).live pairs in
      record {
        no_tail = holds.no_tail;
        spelled = subst P (sym (live_after-push formula steps (Add (last + 1) lits hints))) (spells-push store.live (live_after formula steps) store.count (last + 1) lits holds.spelled);
        rising = rising-push (length formula.clauses) steps (last + 1) lits hints holds.rising (omega (arith, holds.most));
        most = omega (arith, last-push (length formula.clauses) steps (last + 1) lits hints);
        ids = λ clause inside. elim (Contains-push_cases store.live (record { number = store.count; id = last + 1; lits = set.from_list lits }) clause inside) [
          | inl old ↦ omega (arith, holds.ids clause old)
          | inr same ↦ omega (arith, ap (λ (c : LiveClause). c.id) same)
        ];
        kept = kept;
      }
