-- A searcher that shares a log with others: it may lack the last of the clauses that are live.
use Rattle.std.specs.Prelude.{◌≡◌, ◌≤◌, ℕ, List, [], length, map, take, fold, slice_get, Option, Some, None}
use Rattle.lls_lit.specs.Formula.{Clause, Cnf}
use Rattle.lls_prooflog.specs.UnitWalk.{Live}
use Rattle.lls_prooflog.specs.declared.step.Step.{Step}
use Rattle.lls_prooflog.specs.declared.step.Step.TheVariants.{Add, Del}
use Rattle.lls_prooflog.specs.Spent.{log_after, log_start, live_after}
use Rattle.lls_store.specs.Trail.{TrailState}
use Rattle.lls_store.specs.Clauses.{LiveClause}
use Rattle.lls_store.specs.Store.{StoreState}
use Rattle.lls_analyse.specs.Spelled.{Spells}
use Rattle.lls_solver.specs.Course.{IsOnCourse}

-- the formula's clauses, then the first of the additions that are live behind the steps, and no other clause
pub record HoldsFirst (formula : Cnf) (steps : List Step) (live : List LiveClause) : Type 0 where
  pub whole_formula : length formula.clauses ≤ length live
  pub spelled : Spells live (take (length live) (live_after formula steps))

-- what holds of a searcher between its turns, while others add to the log
pub record IsBehind (formula : Cnf) (steps : List Step) (store : StoreState) (trail : TrailState) : Type 0 where
  pub store_vars : store.vars ≡ formula.vars
  pub no_tail : store.tail ≡ []
  pub first : HoldsFirst formula steps store.live
  pub count : store.count ≡ length store.live
  pub on_course : IsOnCourse store trail

-- the additions that are live behind the steps
abbrev pub added_after : Cnf → List Step → Live
added_after formula steps = (fold log_after (log_start formula) steps).added

-- what a step adds, under its id
abbrev pub addition_of : Option Step → Option (ℕ × Clause)
addition_of (Some (Add id lits hints)) = Some (id, lits)
addition_of (Some (Del ids)) = None
addition_of None = None

abbrev pub addition_at : List Step → ℕ → Option (ℕ × Clause)
addition_at steps number = addition_of (slice_get steps number)

-- the numbers of the steps whose additions are live behind all of them, in their order
abbrev pub AreLiveSteps : Cnf → List Step → List ℕ → Type 0
AreLiveSteps formula steps numbers = map (addition_at steps) numbers ≡ map (λ pair. Some pair) (added_after formula steps)
