-- What a deletion makes of searchers and of their log.
use Rattle.std.specs.Prelude.{◌≡◌, ◌<◌, ℕ, ◌+◌, Bool, true, List, [], ◌∷◌, ◌++◌, All, length, map, fold, slice_index_or}
use Rattle.lls_lit.specs.Formula.{Cnf}
use Rattle.lls_prooflog.specs.declared.step.Step.{Step}
use Rattle.lls_prooflog.specs.declared.step.Step.TheVariants.{Del}
use Rattle.lls_prooflog.specs.Spent.{EachStep, IsLateDeletion, live_after, log_after, log_start}
use Rattle.lls_store.specs.Store.{StoreState, AreLive}
use Rattle.lls_solver.specs.Deletion.{HasForgotten, HasReasons, IsLate, MayGo, ids_left, ids_marked, is_marked}
use Rattle.lls_solver.specs.Searching.{SearcherState, additions, HoldsClauses}

-- the ids of the clauses that a searcher holds
abbrev pub ids_in : SearcherState → List ℕ
ids_in searcher = map (λ clause. clause.id) searcher.store.live

-- the step that deletes these ids, and none where there is none
abbrev pub deletion_of : List ℕ → List Step
deletion_of [] = []
deletion_of (id ∷ ids) = Del (id ∷ ids) ∷ []

-- a deletion behind these steps: only live additions go, and only where so many are live that one may come; nothing where all is to be kept
pub record MayDelete (formula : Cnf) (keep_all : Bool) (steps : List Step) (deleted : List ℕ) : Type 0 where
  pub late : EachStep IsLateDeletion (fold log_after (log_start formula) steps) (deletion_of deleted)
  pub kept : keep_all ≡ true → deleted ≡ []

-- the log got a deletion or nothing, and each searcher holds what it held, in ids, without what was deleted
pub record Forgets (formula : Cnf) (keep_all : Bool) (old new : List Step) (held left : List (List ℕ)) : Type 0 where
  pub deleted : List ℕ
  pub may : MayDelete formula keep_all old deleted
  pub logged : new ≡ old ++ deletion_of deleted
  pub held_left : left ≡ map (ids_left deleted) held

-- each searcher lost the clauses that are marked
pub record HaveForgotten (marks : List Bool) (old new : List SearcherState) : Type 0 where
  pub many : length new ≡ length old
  pub each : (k : ℕ) (d : SearcherState) → k < length old → HasForgotten marks (slice_index_or old k d) (slice_index_or new k d)

-- clauses that may go out of all searchers, marked by number, and their ids: late enough, and learnt clauses of a store that has all which are live; what
-- is a searcher's reason isn't among them
pub record IsChosen (formula : Cnf) (steps : List Step) (searchers : List SearcherState) (marks : List Bool) (ids : List ℕ) : Type 0 where
  pub whole : StoreState
  pub reasons : List Bool
  pub late : IsLate formula steps
  pub live : AreLive whole
  pub holds : HoldsClauses whole formula.vars (live_after formula steps) (length formula.clauses + additions steps)
  pub reasons_each : length reasons ≡ whole.count
  pub has_reasons : All (λ s. HasReasons s.trail.entries reasons) searchers
  pub marks_each : length marks ≡ whole.count
  pub may_go : (c : ℕ) → is_marked marks c ≡ true → MayGo whole.live reasons (length formula.clauses) c
  pub ids_are : ids ≡ ids_marked marks whole.live
  pub some : 0 < length ids
