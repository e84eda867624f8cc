-- A search under way: what holds of its clauses and of its log.
use Rattle.std.specs.Prelude.{◌≡◌, ◌≢◌, ◌≤◌, ℕ, ℤ, ◌+◌, ◌^◌, Bool, true, not, List, [], ◌∷◌, ◌++◌, map, length, count_by, Result, Ok, OnErr}
use Rattle.std.specs.List.{list_all}
use Rattle.lls_lit.specs.Formula.{Clause, Cnf, satisfies}
use Rattle.lls_prooflog.specs.UnitWalk.{Live, numbered}
use Rattle.lls_prooflog.specs.Steps.{are_accepted, is_empty_addition}
use Rattle.lls_prooflog.specs.Spent.{EachStep, AddsByPropagation, AddsFresh, IsGood, IsFreshAddition, IsLateDeletion, IsSpent, log_start, is_addition, live_after}
use Rattle.lls_base.specs.declared.memory.Memory.{Memory}
use Rattle.lls_prooflog.specs.declared.step.Step.{Step}
use Rattle.lls_prooflog.specs.declared.step.Step.TheVariants.{Add, Del}
use Rattle.lls_store.specs.Trail.{TrailState}
use Rattle.lls_store.specs.Store.{StoreState}
use Rattle.lls_solver.specs.Course.{IsOnCourse}
use Rattle.lls_analyse.specs.Spelled.{Spells}
use Rattle.lls_solver.specs.declared.outcome.Outcome.{Outcome}
use Rattle.lls_solver.specs.declared.outcome.Outcome.TheVariants.{Sat, Unsat, Undecided}

abbrev pub ids_of : Live → List ℕ
ids_of live = map (λ pair. pair.0) live

-- ids that ascend, from a number on and below another
abbrev pub AreAscending : ℕ → List ℕ → ℕ → Type 0
AreAscending least [] bound = least ≤ bound
AreAscending least (id ∷ ids) bound = (least ≤ id) × AreAscending (id + 1) ids bound

-- a store of these clauses alone, under ids that ascend from 1 to the last that was given
pub record HoldsClauses (store : StoreState) (vars : ℕ) (pairs : Live) (last : ℕ) : Type 0 where
  pub store_vars : store.vars ≡ vars
  pub no_tail : store.tail ≡ []
  pub spelled : Spells store.live pairs
  pub count : store.count ≡ length pairs
  pub ids : AreAscending 1 (ids_of pairs) (last + 1)

-- the ids of the additions run upwards from a number, whatever is deleted between
abbrev pub AreNumberedFrom : ℕ → List Step → Type 0
AreNumberedFrom n [] = Unit {0}
AreNumberedFrom n (Add id lits hints ∷ steps) = (id ≡ n) × AreNumberedFrom (n + 1) steps
AreNumberedFrom n (Del ids ∷ steps) = AreNumberedFrom n steps

abbrev pub additions : List Step → ℕ
additions steps = count_by is_addition steps

-- nothing is deleted where all is to be kept
abbrev pub KeepsAll : Bool → List Step → Type 0
KeepsAll keep_all steps = keep_all ≡ true → list_all is_addition steps ≡ true

-- additions by unit propagation that are fresh in their turn, none of which is empty, with the ids behind those of the formula's clauses, and
-- deletions of live additions alone, each of them late
pub record IsGoodLog (formula : Cnf) (steps : List Step) : Type 0 where
  pub good : EachStep IsGood (log_start formula) steps
  pub fresh : EachStep (IsFreshAddition formula.vars) (log_start formula) steps
  pub deletions : EachStep IsLateDeletion (log_start formula) steps
  pub numbered_on : AreNumberedFrom (length formula.clauses + 1) steps
  pub none_empty : list_all (λ step. not (is_empty_addition step)) steps ≡ true

-- what holds between two conflicts
pub record IsSearching (formula : Cnf) (steps : List Step) (store : StoreState) (trail : TrailState) : Type 0 where
  pub holds : HoldsClauses store formula.vars (live_after formula steps) (length formula.clauses + additions steps)
  pub log : IsGoodLog formula steps
  pub on_course : IsOnCourse store trail

-- what a searcher is seen as
pub record SearcherState : Type 0 where
  pub store : StoreState
  pub trail : TrailState

-- a log got one addition more, good by unit propagation and fresh against the clauses that were live before it
pub record LearnsOne (formula : Cnf) (old new : List Step) : Type 0 where
  pub id : ℕ
  pub lits : Clause
  pub hints : List ℤ
  pub logged : new ≡ old ++ Add id lits hints ∷ []
  pub good : AddsByPropagation (live_after formula old) id lits hints
  pub fresh : AddsFresh formula.vars (live_after formula old) lits

-- a log got an addition of the empty clause
pub record AddsEmpty (old new : List Step) : Type 0 where
  pub id : ℕ
  pub hints : List ℤ
  pub logged : new ≡ old ++ Add id [] hints ∷ []

-- a clause was learnt within a budget, and the search goes on
pub record HasLearnt (formula : Cnf) (budget : ℕ) (old new : List Step) (searcher : SearcherState) : Type 0 where
  pub learns : LearnsOne formula old new
  pub searching : IsSearching formula new searcher.store searcher.trail
  pub one_more : additions new ≡ additions old + 1
  pub within : additions new ≤ budget

-- a search within its budget, between two turns
pub record IsUnderWay (formula : Cnf) (budget : ℕ) (keep_all : Bool) (steps : List Step) (searcher : SearcherState) : Type 0 where
  pub searching : IsSearching formula steps searcher.store searcher.trail
  pub kept : KeepsAll keep_all steps
  pub within : additions steps ≤ budget

-- an assignment of the formula's variables that satisfies it
pub record IsModel (formula : Cnf) (values : List Bool) : Type 0 where
  pub many : length values ≡ formula.vars
  pub satisfied : satisfies values formula.clauses ≡ true

-- a good log of what was learnt within a budget
pub record IsLogWithin (formula : Cnf) (budget : ℕ) (steps : List Step) : Type 0 where
  pub log : IsGoodLog formula steps
  pub within : additions steps ≤ budget

-- a log that shows that nothing satisfies the formula: what was learnt within a budget, and the empty clause behind it
pub record IsRefutation (formula : Cnf) (budget : ℕ) (steps : List Step) : Type 0 where
  pub learnt : List Step
  pub last : Step
  pub log : IsLogWithin formula budget learnt
  pub ends : steps ≡ learnt ++ last ∷ []
  pub empties : is_empty_addition last ≡ true
  pub good : EachStep IsGood (log_start formula) steps
  pub accepted : are_accepted (numbered formula.clauses) steps ≡ true
  pub numbered_on : AreNumberedFrom (length formula.clauses + 1) steps

-- a good log of as many additions as the budget allows, and the search wasn't done
pub record IsExhausted (formula : Cnf) (budget : ℕ) (steps : List Step) : Type 0 where
  pub log : IsGoodLog formula steps
  pub spent : IsSpent formula steps budget

-- the formula's clauses are among those of a store
pub record HoldsFormula (formula : Cnf) (store : StoreState) : Type 0 where
  pub store_vars : store.vars ≡ formula.vars
  pub more : Live
  pub spelled : Spells store.live (numbered formula.clauses ++ more)

-- what each answer of a search says, with the steps that it leaves in the log; with such budgets it never gives up, for no log
-- spends them
pub record IsOutcome (formula : Cnf) (budget : ℕ) (keep_all : Bool) (steps : List Step) (result : Result Outcome Memory) : Type 0 where
  pub sat : (values : List Bool) → result ≡ Ok (Sat values) → IsModel formula values
  pub learnt : (values : List Bool) → result ≡ Ok (Sat values) → IsLogWithin formula budget steps
  pub unsat : result ≡ Ok Unsat → IsRefutation formula budget steps
  pub undecided : result ≡ Ok Undecided → IsExhausted formula budget steps
  pub memory : OnErr result (IsLogWithin formula budget steps)
  pub all_kept : KeepsAll keep_all steps
  pub decides : 9 ^ formula.vars ≤ budget → result ≢ Ok Undecided
  pub decides_kept : keep_all ≡ true → 3 ^ formula.vars ≤ budget → result ≢ Ok Undecided
