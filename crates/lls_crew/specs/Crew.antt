-- Several searchers over one log.
use Rattle.std.specs.Prelude.{◌⊎◌, ◌≡◌, ◌≢◌, ◌<◌, ◌≤◌, ℕ, ℤ, Bool, List, [], ◌∷◌, ◌++◌, All, Result, Ok, Err, length, map, replicate, slice_index_or, slice_set, take, ◌==◌}
use Rattle.std.specs.List.{list_any}
use Rattle.lls_lit.specs.Formula.{Clause, Cnf}
use Rattle.lls_base.specs.declared.memory.Memory.{Memory}
use Rattle.lls_prooflog.specs.UnitWalk.{Live, numbered}
use Rattle.lls_prooflog.specs.declared.step.Step.{Step}
use Rattle.lls_prooflog.specs.declared.step.Step.TheVariants.{Add}
use Rattle.lls_prooflog.specs.Spent.{AddsByPropagation, AddsFresh, live_after}
use Rattle.lls_solver.specs.declared.solving.TheConstants.{MOST_BUDGET}
use Rattle.lls_solver.specs.declared.outcome.Outcome.{Outcome}
use Rattle.lls_solver.specs.Deletion.{ids_left}
use Rattle.lls_solver.specs.Searching.{SearcherState, additions, ids_of, IsLogWithin, IsOutcome, KeepsAll, LearnsOne}
use Rattle.lls_solver.specs.Sharing.{AreLiveSteps, HoldsFirst, IsBehind}
use Rattle.lls_crew.specs.Forgetting.{MayDelete, deletion_of, ids_in}
use Rattle.lls_numbers.specs.Numbers.{after}
use Rattle.lls_crew.specs.Turns.{EndsBy, turn_of}
use Rattle.lls_crew.specs.declared.stage.Stage.{Stage}
use Rattle.lls_crew.specs.declared.stage.Stage.TheVariants.{Going, Ended, Failed}
use Rattle.lls_crew.specs.declared.searchers.Turned.{Turned}
use Rattle.lls_crew.specs.declared.searchers.Turned.TheVariants as turned

-- what a crew is seen as: among the rest the log's steps, the ids of the clauses that each searcher holds, in their order, and how it ended
pub record CrewState : Type 0 where
  pub formula : Cnf
  pub budget : ℕ
  pub keep_all : Bool
  pub steps : List Step
  pub held : List (List ℕ)
  pub stage : Stage

-- the clauses that are live behind its log
abbrev pub live_of : CrewState → Live
live_of crew = live_after crew.formula crew.steps

-- before its first turn
abbrev pub started : Cnf → ℕ → Bool → ℕ → CrewState
started formula budget keep_all many = record {
  formula = formula;
  budget = budget;
  keep_all = keep_all;
  steps = [];
  held = replicate many (ids_of (numbered formula.clauses));
  stage = Going;
}

-- the searcher of a number holds a clause under the id
abbrev pub is_held : CrewState → ℕ → ℕ → Bool
is_held crew k id = list_any (λ held. held == id) (slice_index_or crew.held k [])

-- what a turn answers that leaves a crew so
abbrev pub answer_of : Stage → Result Turned Memory
answer_of Going = Ok turned.Going
answer_of (Ended outcome) = Ok turned.Ended
answer_of Failed = Err (record {})

-- searcher k learnt a clause: an addition that is good by unit propagation and fresh against all clauses that were live. Perhaps some additions were
-- deleted then, in one step. Now searcher k holds all that are live, and the others what they held without what was deleted
pub record Learns (old new : CrewState) (k : ℕ) : Type 0 where
  pub going : old.stage ≡ Going
  pub few : additions old.steps < old.budget
  pub id : ℕ
  pub lits : Clause
  pub hints : List ℤ
  pub good : AddsByPropagation (live_of old) id lits hints
  pub fresh : AddsFresh old.formula.vars (live_of old) lits
  pub deleted : List ℕ
  pub may : MayDelete old.formula old.keep_all (old.steps ++ Add id lits hints ∷ []) deleted
  pub learnt : new ≡ record old { steps = old.steps ++ Add id lits hints ∷ deletion_of deleted; held = slice_set (map (ids_left deleted) old.held) k (ids_of (live_of new)) }

-- searcher k's turn was the last. Where it came to an outcome, it holds all clauses that were live, and the log got the empty clause or nothing; where
-- memory was wanted, the log got nothing, or the clause that was learnt. The others hold what they held
pub record Stops (old new : CrewState) (k : ℕ) : Type 0 where
  pub more : List Step
  pub ids : List ℕ
  pub ended : (outcome : Outcome) → new.stage ≡ Ended outcome → ids ≡ ids_of (live_of old)
  pub added : (outcome : Outcome) → new.stage ≡ Ended outcome → EndsBy outcome old.steps new.steps
  pub failed : new.stage ≡ Failed → (new.steps ≡ old.steps) ⊎ LearnsOne old.formula old.steps new.steps
  pub stopped : new ≡ record old { steps = old.steps ++ more; held = slice_set old.held k ids; stage = new.stage }

-- the log is right for how far the crew has come
abbrev pub IsLogAt : Cnf → ℕ → Bool → List Step → Stage → Type 0
IsLogAt formula budget keep_all steps Going = IsLogWithin formula budget steps × KeepsAll keep_all steps
IsLogAt formula budget keep_all steps (Ended outcome) = IsOutcome formula budget keep_all steps (Ok outcome)
IsLogAt formula budget keep_all steps Failed = IsLogWithin formula budget steps × KeepsAll keep_all steps

-- ids of the first of these clauses, among them those of the formula
pub record AreFirst (formula : Cnf) (live : Live) (ids : List ℕ) : Type 0 where
  pub whole_formula : length formula.clauses ≤ length ids
  pub first : ids ≡ take (length ids) (ids_of live)

-- what holds whichever turns were taken: each searcher holds the first of the live clauses, and no other; and the log is right
pub record IsCrew (crew : CrewState) : Type 0 where
  pub first : All (AreFirst crew.formula (live_of crew)) crew.held
  pub log : IsLogAt crew.formula crew.budget crew.keep_all crew.steps crew.stage

-- what is seen of searchers and their log
abbrev pub crew_of : Cnf → ℕ → Bool → List SearcherState → List Step → Stage → CrewState
crew_of formula budget keep_all searchers steps stage = record {
  formula = formula;
  budget = budget;
  keep_all = keep_all;
  steps = steps;
  held = map ids_in searchers;
  stage = stage;
}

-- the same of the searchers themselves, which can go on while the crew does, and the numbers of the steps whose additions are live
pub record IsCrewOf (formula : Cnf) (budget : ℕ) (keep_all : Bool) (searchers : List SearcherState) (steps : List Step) (live : List ℕ) (stage : Stage) : Type 0 where
  pub first : All (λ s. HoldsFirst formula steps s.store.live) searchers
  pub behind : stage ≡ Going → All (λ s. IsBehind formula steps s.store s.trail) searchers
  pub live_steps : stage ≡ Going → AreLiveSteps formula steps live
  pub budget_fits : budget ≤ MOST_BUDGET
  pub log : IsLogAt formula budget keep_all steps stage

-- what a turn of searcher k may make of a crew: it learns, or it is the last
pub record IsTurn (old new : CrewState) (k : ℕ) : Type 0 where
  pub going : old.stage ≡ Going
  pub learns : new.stage ≡ Going → Learns old new k
  pub stops : new.stage ≢ Going → Stops old new k

-- turn after turn since the crew started. Before each the generator makes the next number, which says whose turn it is
pub data ArePlayed (start : CrewState) (seed searchers : ℕ) : CrewState → ℕ → Type 0 where
  unplayed : ArePlayed start seed searchers start seed
  played_more : (old new : CrewState) (last : ℕ) → ArePlayed start seed searchers old last → IsTurn old new (turn_of (after last) searchers) → ArePlayed start seed searchers new (after last)

-- a crew of so many searchers played from the seed until this was its log, and the outcome was there
pub record IsPlayed (formula : Cnf) (searchers budget : ℕ) (keep_all : Bool) (seed : ℕ) (steps : List Step) (outcome : Outcome) : Type 0 where
  pub last : ℕ
  pub crew : CrewState
  pub played : ArePlayed (started formula budget keep_all searchers) seed searchers crew last
  pub log : crew.steps ≡ steps
  pub ended : crew.stage ≡ Ended outcome
