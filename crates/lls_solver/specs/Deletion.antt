-- Which clauses a search forgets, and what that makes of it.
use Rattle.std.specs.Prelude.{◌≡◌, ◌≤◌, ◌<◌, ℕ, Bool, true, false, not, List, [], map, length, filter, slice_index_or, fold, Some, ◌==◌}
use Rattle.std.specs.List.{list_any, zip}
use Rattle.lls_lit.specs.Formula.{Cnf}
use Rattle.lls_prooflog.specs.declared.step.Step.{Step}
use Rattle.lls_prooflog.specs.Spent.{least_added, log_after, log_start}
use Rattle.lls_store.specs.Trail.{Entry}
use Rattle.lls_store.specs.Clauses.{LiveClause, clause_numbered}
use Rattle.lls_store.specs.Removal.{IsNoReason, compacted, renamed}
use Rattle.lls_store.specs.Sound.{IsSound}
use Rattle.lls_store.specs.Store.{StoreState, AreLive}
use Rattle.lls_solver.specs.Searching.{SearcherState}
use Rattle.lls_solver.specs.Sharing.{added_after}

-- the clause of that number is marked
abbrev pub is_marked : List Bool → ℕ → Bool
is_marked marks c = slice_index_or marks c false

-- each clause that isn't marked is no reason
abbrev pub HasReasons : List Entry → List Bool → Type 0
HasReasons entries marks = (c : ℕ) → c < length marks → is_marked marks c ≡ false → IsNoReason entries c

-- what was marked is marked still
abbrev pub KeepsMarks : List Bool → List Bool → Type 0
KeepsMarks old new = (c : ℕ) → is_marked old c ≡ true → is_marked new c ≡ true

-- a live clause with an id above those of the formula's clauses, that isn't marked as a reason
pub record MayGo (live : List LiveClause) (reasons : List Bool) (last : ℕ) (number : ℕ) : Type 0 where
  pub clause : LiveClause
  pub is_live : clause_numbered live number ≡ Some clause
  pub learnt : last < clause.id
  pub unmarked : is_marked reasons number ≡ false

-- the live clauses that are marked
abbrev pub marked_of : List Bool → List LiveClause → List LiveClause
marked_of marks live = filter (λ clause. is_marked marks clause.number) live

abbrev pub ids_marked : List Bool → List LiveClause → List ℕ
ids_marked marks live = map (λ clause. clause.id) (marked_of marks live)

-- the store without the clauses that are marked
abbrev pub without_marked : StoreState → List Bool → StoreState
without_marked store marks = record store { live = filter (λ clause. not (is_marked marks clause.number)) store.live }

-- every number that was given is a live clause's
abbrev pub AreAllLive : StoreState → Type 0
AreAllLive store = store.count ≡ length store.live

-- they are so many that a deletion may come
abbrev pub IsLate : Cnf → List Step → Type 0
IsLate formula steps = least_added (fold log_after (log_start formula) steps).deletions ≤ length (added_after formula steps)

-- a searcher may lose the clauses that are marked, none of which is a reason of its own
pub record MayLose (marks : List Bool) (searcher : SearcherState) : Type 0 where
  pub no_tail : searcher.store.tail ≡ []
  pub all_live : AreAllLive searcher.store
  pub sound : IsSound searcher.store.live searcher.trail
  pub each : searcher.store.count ≤ length marks
  pub no_reason : (c : ℕ) → is_marked marks c ≡ true → IsNoReason searcher.trail.entries c

-- it lost them, and has the others under new numbers
pub record HasForgotten (marks : List Bool) (old new : SearcherState) : Type 0 where
  pub were_live : AreLive old.store
  pub store : new.store ≡ compacted (without_marked old.store marks)
  pub trail : new.trail ≡ renamed (without_marked old.store marks).live old.trail
  pub sound : IsSound new.store.live new.trail

-- the ids that aren't among those that are deleted
abbrev pub ids_left : List ℕ → List ℕ → List ℕ
ids_left deleted ids = filter (λ id. not (list_any (λ other. other == id) deleted)) ids

-- the numbers that aren't marked, one by one
abbrev pub numbers_left : List ℕ → List Bool → List ℕ
numbers_left numbers marks = map (λ pair. pair.0) (filter (λ pair. not pair.1) (zip numbers marks))
