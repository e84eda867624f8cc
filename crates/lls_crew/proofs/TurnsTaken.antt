-- What a turn makes of searchers over one log.
use Rattle.std.proofs.Common.{◌≡◌, ◌≢◌, ℕ, suc, ◌<◌, ◌≤◌, Bool, true, List, [], ◌∷◌, ◌++◌, length, map, replicate, get_or, set, take, Ok, inl, inr, refl, sym, ap, subst, ◌∙◌, append_assoc, arith}
use Rattle.std.specs.Prelude.{Result, All, ◌||◌, ◌==◌}
use Rattle.std.specs.List.{list_all, list_any}
use Rattle.std.proofs.lemmas.Bool.{and_from}
use Rattle.std.proofs.lemmas.List.{append-nil, get_or-map, length-map, map-set, take-map}
use Rattle.std.proofs.lemmas.List.Elements.{All-map, All-set}
use Rattle.std.proofs.lemmas.List.Folds.{list_all-append}
use Rattle.lls_base.specs.declared.memory.Memory.{Memory}
use Rattle.lls_lit.specs.Formula.{Clause, Cnf}
use Rattle.lls_prooflog.specs.declared.step.Step.{Step}
use Rattle.lls_prooflog.specs.declared.step.Step.TheVariants.{Add}
use Rattle.lls_prooflog.specs.Spent.{is_addition, live_after}
use Rattle.lls_store.specs.Clauses.{LiveClause}
use Rattle.lls_solver.specs.declared.outcome.Outcome.{Outcome}
use Rattle.lls_solver.specs.declared.solving.TheConstants.{MOST_BUDGET}
use Rattle.lls_solver.specs.Deletion.{ids_left}
use Rattle.lls_solver.specs.Searching.{SearcherState, additions, ids_of, HasLearnt, IsGoodLog, IsLogWithin, IsOutcome, IsSearching, KeepsAll, LearnsOne}
use Rattle.lls_solver.specs.Sharing.{AreLiveSteps, HoldsFirst, IsBehind}
use Rattle.lls_analyse.specs.Spelled.{Spells}
use Rattle.lls_solver.proofs.Clauses.{spells_ids}
use Rattle.lls_solver.proofs.Unbegun.{good_none}
use Rattle.lls_solver.proofs.Sharing.{behind_grown, behind_searching, first_grown, first_searching}
use Rattle.lls_crew.specs.declared.stage.Stage.{Stage}
use Rattle.lls_crew.specs.declared.stage.Stage.TheVariants.{Going, Ended, Failed}
use Rattle.lls_numbers.specs.Numbers.{after}
use Rattle.lls_crew.specs.Turns.{EndsBy, IsGrown, TurnsState, turn_of}
use Rattle.lls_crew.specs.Forgetting.{Forgets, MayDelete, deletion_of, ids_in}
use Rattle.lls_crew.specs.declared.searchers.Turned.{Turned}
use Rattle.lls_crew.specs.declared.searchers.Turned.TheVariants as turned
use Rattle.lls_crew.specs.Crew.{CrewState, AreFirst, ArePlayed, IsCrew, IsCrewOf, IsTurn, Learns, Stops, answer_of, crew_of, played_more, started}
use Rattle.lls_crew.proofs.Deletions.{additions-deletion_of, ids_left-live}

ids_first : (formula : Cnf) (steps : List Step) (s : SearcherState) → HoldsFirst formula steps s.store.live → AreFirst formula (live_after formula steps) (ids_in s)
ids_first formula steps s h =
    let live = s.store.live in
    let many : length (ids_in s) ≡ length live = length-map live (λ (c : LiveClause). c.id) in
    record {
      whole_formula = omega (arith, many, h.whole_formula);
      first = spells_ids live (take (length live) (live_after formula steps)) h.spelled ∙ sym (take-map (λ (pair : ℕ × Clause). pair.0) (length live) (live_after formula steps)) ∙ ap (λ (n : ℕ). take n (ids_of (live_after formula steps))) (sym many);
    }

all_weaker : (P Q : SearcherState → Type 0) (searchers : List SearcherState) → ((s : SearcherState) → P s → Q s) → All P searchers → All Q searchers
all_weaker P Q searchers weaker all = λ k d lt. weaker (get_or searchers k d) (all k d lt)

-- what holds of searchers is seen of the crew
pub crew_is : (formula : Cnf) (budget : ℕ) (keep_all : Bool) (searchers : List SearcherState) (steps : List Step) (live : List ℕ) (stage : Stage) → IsCrewOf formula budget keep_all searchers steps live stage → IsCrew (crew_of formula budget keep_all searchers steps stage)
crew_is formula budget keep_all searchers steps live stage h = record {
  first = All-map (AreFirst formula (live_after formula steps)) ids_in searchers (all_weaker (λ s. HoldsFirst formula steps s.store.live) (λ s. AreFirst formula (live_after formula steps) (ids_in s)) searchers (ids_first formula steps) h.first);
  log = h.log;
}

module _ (formula : Cnf) (budget : ℕ) (keep_all : Bool) (searchers : List SearcherState) (old new : List Step) (live : List ℕ) (h : IsCrewOf formula budget keep_all searchers old live Going) (grown : IsGrown old new) where
  kept_grown : KeepsAll keep_all new
  kept_grown = λ is. ap (list_all is_addition) grown.logged ∙ list_all-append is_addition old grown.more ∙ and_from (list_all is_addition old) (list_all is_addition grown.more) (h.log.1 is) grown.additions

  first_set : (k : ℕ) (s : SearcherState) → HoldsFirst formula new s.store.live → All (λ (x : SearcherState). HoldsFirst formula new x.store.live) (set searchers k s)
  first_set k s first =
      let others = all_weaker (λ x. HoldsFirst formula old x.store.live) (λ x. HoldsFirst formula new x.store.live) searchers
      (λ x is. subst (λ (ss : List Step). HoldsFirst formula ss x.store.live) (sym grown.logged) (first_grown formula old grown.more x.store.live grown.additions is)) h.first
      in
      All-set (λ (x : SearcherState). HoldsFirst formula new x.store.live) searchers k s first others

  behind_set : (k : ℕ) (s : SearcherState) → IsSearching formula new s.store s.trail → All (λ (x : SearcherState). IsBehind formula new x.store x.trail) (set searchers k s)
  behind_set k s searching =
      let others = all_weaker (λ x. IsBehind formula old x.store x.trail) (λ x. IsBehind formula new x.store x.trail) searchers
      (λ x is. subst (λ (ss : List Step). IsBehind formula ss x.store x.trail) (sym grown.logged) (behind_grown formula old grown.more x.store x.trail grown.additions is)) (h.behind refl)
      in
      All-set (λ (x : SearcherState). IsBehind formula new x.store x.trail) searchers k s (behind_searching formula new s.store s.trail searching) others

  -- where a clause was learnt
  pub crew_learnt : (k : ℕ) (s : SearcherState) (now : List ℕ) → HasLearnt formula budget old new s → AreLiveSteps formula new now → IsCrewOf formula budget keep_all (set searchers k s) new now Going
  crew_learnt k s now learnt lives = record {
    first = first_set k s (first_searching formula new s.store s.trail learnt.searching);
    behind = λ _. behind_set k s learnt.searching;
    live_steps = λ _. lives;
    budget_fits = h.budget_fits;
    log = (record { log = learnt.searching.log; within = learnt.within }, kept_grown);
  }

  -- after a turn that came to an outcome
  pub crew_ended : (k : ℕ) (s : SearcherState) (now : List ℕ) (outcome : Outcome) → HoldsFirst formula new s.store.live → IsOutcome formula budget keep_all new (Ok outcome) → IsCrewOf formula budget keep_all (set searchers k s) new now (Ended outcome)
  crew_ended k s now outcome first right = record {
    first = first_set k s first;
    behind = λ is. absurd cc;
    live_steps = λ is. absurd cc;
    budget_fits = h.budget_fits;
    log = right;
  }

  -- after a turn without memory, which left the log as it was
  pub crew_failed : (k : ℕ) (s : SearcherState) (now : List ℕ) → HoldsFirst formula new s.store.live → new ≡ old → IsCrewOf formula budget keep_all (set searchers k s) new now Failed
  crew_failed k s now first same = record {
    first = first_set k s first;
    behind = λ is. absurd cc;
    live_steps = λ is. absurd cc;
    budget_fits = h.budget_fits;
    log = subst (λ (ss : List Step). IsLogWithin formula budget ss × KeepsAll keep_all ss) (sym same) h.log;
  }

-- where some additions were deleted, or none
pub crew_forgot : (formula : Cnf) (budget : ℕ) (keep_all : Bool) (searchers left : List SearcherState) (old new : List Step) (live now : List ℕ) → IsCrewOf formula budget keep_all searchers old live Going
    → Forgets formula keep_all old new (map ids_in searchers) (map ids_in left) → All (λ (s : SearcherState). IsBehind formula new s.store s.trail) left → IsGoodLog formula new → AreLiveSteps formula new now
    → IsCrewOf formula budget keep_all left new now Going
crew_forgot formula budget keep_all searchers left old new live now h forgets behind good lives = record {
  first = all_weaker (λ s. IsBehind formula new s.store s.trail) (λ s. HoldsFirst formula new s.store.live) left (λ s is. is.first) behind;
  behind = λ _. behind;
  live_steps = λ _. lives;
  budget_fits = h.budget_fits;
  log = (record { log = good; within = omega (arith, h.log.0.within, ap additions forgets.logged, additions-deletion_of old forgets.deleted) }, kept);
} where
  kept : KeepsAll keep_all new
  kept is =
      let same : new ≡ old = forgets.logged ∙ ap (λ (ids : List ℕ). old ++ deletion_of ids) (forgets.may.kept is) ∙ append-nil old in
      subst (λ (ss : List Step). list_all is_addition ss ≡ true) (sym same) (h.log.1 is)

-- where that wanted memory
pub crew_stuck : (formula : Cnf) (budget : ℕ) (keep_all : Bool) (searchers left : List SearcherState) (old new : List Step) (live now : List ℕ) → IsCrewOf formula budget keep_all searchers old live Going → left ≡ searchers → new ≡ old
    → IsCrewOf formula budget keep_all left new now Failed
crew_stuck formula budget keep_all searchers left old new live now h same logged =
    subst (λ (ss : List Step). IsCrewOf formula budget keep_all left ss now Failed) (sym logged) (subst (λ (xs : List SearcherState). IsCrewOf formula budget keep_all xs old now Failed) (sym same) (record {
      first = h.first;
      behind = λ is. absurd cc;
      live_steps = λ is. absurd cc;
      budget_fits = h.budget_fits;
      log = h.log;
    }))

-- what is seen of a turn that learnt a clause, and perhaps deleted some
pub learns_seen : (formula : Cnf) (budget : ℕ) (keep_all : Bool) (searchers left : List SearcherState) (old middle new : List Step) (k : ℕ) (s : SearcherState) → HasLearnt formula budget old middle s
    → Forgets formula keep_all middle new (map ids_in (set searchers k s)) (map ids_in left)
    → Learns (crew_of formula budget keep_all searchers old Going) (crew_of formula budget keep_all left new Going) k
learns_seen formula budget keep_all searchers left old middle new k s learnt forgets =
    let step = learnt.learns in
    let deleted = forgets.deleted in
    let added = Add step.id step.lits step.hints in
    let logged : new ≡ old ++ added ∷ deletion_of deleted = forgets.logged ∙ ap (λ (ss : List Step). ss ++ deletion_of deleted) step.logged ∙ append_assoc old (added ∷ []) (deletion_of deleted) in
    let whole : ids_left deleted (ids_in s) ≡ ids_of (live_after formula new) =
    ap (ids_left deleted) (spells_ids s.store.live (live_after formula middle) learnt.searching.holds.spelled) ∙ ids_left-live formula middle deleted ∙ ap (λ (ss : List Step). ids_of (live_after formula ss)) (sym forgets.logged)
    in
    let held : map ids_in left ≡ set (map (ids_left deleted) (map ids_in searchers)) k (ids_of (live_after formula new)) =
    forgets.held_left ∙ ap (map (ids_left deleted)) (map-set ids_in searchers k s) ∙ map-set (ids_left deleted) (map ids_in searchers) k (ids_in s)
    ∙ ap (set (map (ids_left deleted) (map ids_in searchers)) k) whole
    in
    record {
      going = refl;
      few = omega (arith, learnt.one_more, learnt.within);
      id = step.id;
      lits = step.lits;
      hints = step.hints;
      good = step.good;
      fresh = step.fresh;
      deleted = deleted;
      may = subst (λ (ss : List Step). MayDelete formula keep_all ss deleted) step.logged forgets.may;
      learnt = ap (λ (ids : List (List ℕ)). record (crew_of formula budget keep_all searchers new Going) { held = ids }) held
          ∙ ap (λ (steps : List Step). record (crew_of formula budget keep_all searchers steps Going) { held = set (map (ids_left deleted) (map ids_in searchers)) k (ids_of (live_after formula new)) }) logged;
    }

stopped_seen : (formula : Cnf) (budget : ℕ) (keep_all : Bool) (searchers : List SearcherState) (old more new : List Step) (stage : Stage) (k : ℕ) (s : SearcherState) → new ≡ old ++ more
    → crew_of formula budget keep_all (set searchers k s) new stage ≡ record (crew_of formula budget keep_all searchers old Going) { steps = old ++ more; held = set (map ids_in searchers) k (ids_in s); stage = stage }
stopped_seen formula budget keep_all searchers old more new stage k s logged =
    ap (λ (ids : List (List ℕ)). record (crew_of formula budget keep_all searchers new stage) { held = ids }) (map-set ids_in searchers k s)
    ∙ ap (λ (steps : List Step). record (crew_of formula budget keep_all searchers steps stage) { held = set (map ids_in searchers) k (ids_in s) }) logged

-- of one that came to an outcome
pub ended_seen : (formula : Cnf) (budget : ℕ) (keep_all : Bool) (searchers : List SearcherState) (old new : List Step) (outcome : Outcome) (k : ℕ) (s : SearcherState) → IsGrown old new → Spells s.store.live (live_after formula old) → EndsBy outcome old new
    → Stops (crew_of formula budget keep_all searchers old Going) (crew_of formula budget keep_all (set searchers k s) new (Ended outcome)) k
ended_seen formula budget keep_all searchers old new outcome k s grown spelled ends = record {
  more = grown.more;
  ids = ids_in s;
  ended = λ _ _. spells_ids s.store.live (live_after formula old) spelled;
  added = λ other is. let same : outcome ≡ other = cc in subst (λ (o : Outcome). EndsBy o old new) same ends;
  failed = λ is. absurd cc;
  stopped = stopped_seen formula budget keep_all searchers old grown.more new (Ended outcome) k s grown.logged;
}

-- of one without memory
pub failed_seen : (formula : Cnf) (budget : ℕ) (keep_all : Bool) (searchers : List SearcherState) (old new : List Step) (k : ℕ) (s : SearcherState) → new ≡ old
    → Stops (crew_of formula budget keep_all searchers old Going) (crew_of formula budget keep_all (set searchers k s) new Failed) k
failed_seen formula budget keep_all searchers old new k s same = record {
  more = [];
  ids = ids_in s;
  ended = λ outcome is. absurd cc;
  added = λ outcome is. absurd cc;
  failed = λ _. inl same;
  stopped = stopped_seen formula budget keep_all searchers old [] new Failed k s (same ∙ sym (append-nil old));
}

-- and of one that wanted it behind the clause that it learnt
pub stuck_seen : (formula : Cnf) (budget : ℕ) (keep_all : Bool) (searchers left : List SearcherState) (old middle new : List Step) (k : ℕ) (s : SearcherState) → HasLearnt formula budget old middle s → left ≡ set searchers k s → new ≡ middle
    → Stops (crew_of formula budget keep_all searchers old Going) (crew_of formula budget keep_all left new Failed) k
stuck_seen formula budget keep_all searchers left old middle new k s learnt same logged =
    let step = learnt.learns in
    let added = Add step.id step.lits step.hints in
    subst (λ (xs : List SearcherState). Stops (crew_of formula budget keep_all searchers old Going) (crew_of formula budget keep_all xs new Failed) k) (sym same) (record {
      more = added ∷ [];
      ids = ids_in s;
      ended = λ outcome is. absurd cc;
      added = λ outcome is. absurd cc;
      failed = λ _. inr (subst (LearnsOne formula old) (sym logged) step);
      stopped = stopped_seen formula budget keep_all searchers old (added ∷ []) new Failed k s (logged ∙ step.logged);
    })

any_id : (live : List LiveClause) (id : ℕ) → list_any (λ (c : LiveClause). c.id == id) live ≡ list_any (λ held. held == id) (map (λ (c : LiveClause). c.id) live)
any_id [] id = refl
any_id (clause ∷ live) id = ap (λ b. (clause.id == id) || b) (any_id live id)

-- the searcher of a number holds what is seen there
pub held_at : (searchers : List SearcherState) (k id : ℕ) (s : SearcherState) → k < length searchers → get_or searchers k s ≡ s → list_any (λ (c : LiveClause). c.id == id) s.store.live ≡ list_any (λ held. held == id) (get_or (map ids_in searchers) k [])
held_at searchers k id s lt is =
    any_id s.store.live id ∙ ap (λ (ids : List ℕ). list_any (λ held. held == id) ids) (sym (get_or-map ids_in searchers k s [] lt ∙ ap ids_in is))

all_same : (searchers : List SearcherState) (ids : List ℕ) → All (λ (s : SearcherState). ids_in s ≡ ids) searchers → map ids_in searchers ≡ replicate (length searchers) ids
all_same [] ids all = refl
all_same (s ∷ searchers) ids all = rw (all 0 s (omega arith), all_same searchers ids (λ k d lt. all (suc k) d (omega arith))) refl

-- searchers that haven't begun
pub crew_started : (formula : Cnf) (budget : ℕ) (keep_all : Bool) (searchers : List SearcherState) → All (λ (s : SearcherState). IsSearching formula [] s.store s.trail) searchers → budget ≤ MOST_BUDGET → IsCrewOf formula budget keep_all searchers [] [] Going
crew_started formula budget keep_all searchers all fits = record {
  first = all_weaker (λ s. IsSearching formula [] s.store s.trail) (λ s. HoldsFirst formula [] s.store.live) searchers (λ s is. first_searching formula [] s.store s.trail is) all;
  behind = λ _. all_weaker (λ s. IsSearching formula [] s.store s.trail) (λ s. IsBehind formula [] s.store s.trail) searchers (λ s is. behind_searching formula [] s.store s.trail is) all;
  live_steps = λ _. refl;
  budget_fits = fits;
  log = (record { log = good_none formula; within = omega arith }, λ _. refl);
}

pub started_seen : (formula : Cnf) (budget : ℕ) (keep_all : Bool) (searchers : List SearcherState) (many : ℕ) → All (λ (s : SearcherState). IsSearching formula [] s.store s.trail) searchers → length searchers ≡ many → crew_of formula budget keep_all searchers [] Going ≡ started formula budget keep_all many
started_seen formula budget keep_all searchers many all is =
    let ids = ids_of (live_after formula []) in
    let each = all_weaker (λ s. IsSearching formula [] s.store s.trail) (λ s. ids_in s ≡ ids) searchers (λ s searching. spells_ids s.store.live (live_after formula []) searching.holds.spelled) all in
    ap (λ (held : List (List ℕ)). record (crew_of formula budget keep_all [] [] Going) { held = held }) (all_same searchers ids each ∙ ap (λ (n : ℕ). replicate n ids) is)

-- a crew whose turn answers that it goes on is going
pub goes_if : (stage : Stage) → answer_of stage ≡ Ok turned.Going → stage ≡ Going
goes_if Going e = refl
goes_if (Ended outcome) e = absurd cc
goes_if Failed e = absurd cc

-- what a turn answers says what it was
pub turn_is : (old new : CrewState) (k : ℕ) (result : Result Turned Memory) → result ≡ answer_of new.stage → old.stage ≡ Going
    → (result ≡ Ok turned.Going → Learns old new k) → (result ≢ Ok turned.Going → old.stage ≡ Going → Stops old new k) → IsTurn old new k
turn_is old new k result answers going learns stops = record {
  going = going;
  learns = λ goes. learns (answers ∙ ap answer_of goes);
  stops = λ ends. stops (λ is. ends (goes_if new.stage (sym answers ∙ is))) going;
}

-- one turn more, of the searcher that the next number says
pub played_on : (start : CrewState) (seed many : ℕ) (old new : CrewState) (turns drawn : TurnsState) (k : ℕ) → ArePlayed start seed many old turns.last → turns.searchers ≡ many
    → drawn ≡ record turns { last = after turns.last } → k ≡ turn_of drawn.last turns.searchers → IsTurn old new k → ArePlayed start seed many new drawn.last
played_on start seed many old new turns drawn k played stays is turn taken =
    let last : drawn.last ≡ after turns.last = ap (λ (t : TurnsState). t.last) is in
    let same : k ≡ turn_of (after turns.last) many = turn ∙ ap (λ (n : ℕ). turn_of n turns.searchers) last ∙ ap (turn_of (after turns.last)) stays in
    subst (ArePlayed start seed many new) (sym last) (played_more old new turns.last played (subst (IsTurn old new) same taken))
