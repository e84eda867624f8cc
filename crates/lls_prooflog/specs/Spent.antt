-- Spent logs: a search added as many clauses as it may, each of them fresh, and wasn't done.
use Rattle.std.specs.Prelude.{◌≡◌, ◌<◌, ◌≤◌, ℕ, zero, suc, ◌+◌, ◌*◌, ℤ, pos, negsuc, Bool, true, false, not, ◌&&◌, ◌==◌, List, [], ◌∷◌, length, fold, count_by, None, is_some}
use Rattle.std.specs.List.{list_any, list_all}
use Rattle.lls_lit.specs.Literal.{variable_of}
use Rattle.lls_lit.specs.Formula.{Clause, Cnf, is_within}
use Rattle.lls_prooflog.specs.declared.step.Step.{Step}
use Rattle.lls_prooflog.specs.declared.step.Step.TheVariants.{Add, Del}
use Rattle.lls_prooflog.specs.UnitWalk.{Live, numbered, find_clause, unit_walk}
use Rattle.lls_prooflog.specs.Steps.{rup_fault, after, clauses_of}
use Rattle.lls_prooflog.specs.Fresh.{IsFresh}

-- a log under way: the live clauses, those of them that were added, and how many deletions came before
pub record LogState : Type 0 where
  pub live : Live
  pub added : Live
  pub deletions : ℕ

abbrev pub log_start : Cnf → LogState
log_start formula = record { live = numbered formula.clauses; added = []; deletions = 0 }

abbrev pub is_addition : Step → Bool
is_addition (Add id lits hints) = true
is_addition (Del ids) = false

abbrev pub deletions_with : ℕ → Step → ℕ
deletions_with deletions (Add id lits hints) = deletions
deletions_with deletions (Del ids) = deletions + 1

abbrev pub log_after : LogState → Step → LogState
log_after state step =
    record { live = after state.live step; added = after state.added step; deletions = deletions_with state.deletions step }

-- a fact of each step and what stands before it
abbrev pub EachStep : (LogState → Step → Type 0) → LogState → List Step → Type 0
EachStep P state [] = Unit {0}
EachStep P state (step ∷ steps) = P state step × EachStep P (log_after state step) steps

-- no variable stands twice
abbrev pub has_variables_once : Clause → Bool
has_variables_once [] = true
has_variables_once (l ∷ ls) = not (list_any (λ m. variable_of m == variable_of l) ls) && has_variables_once ls

abbrev pub is_positive : ℤ → Bool
is_positive (pos zero) = false
is_positive (pos (suc n)) = true
is_positive (negsuc n) = false

-- unit propagation along hints that are ids gives the clause, under a new id
pub record AddsByPropagation (live : Live) (id : ℕ) (lits : Clause) (hints : List ℤ) : Type 0 where
  pub positive : list_all is_positive hints ≡ true
  pub good : rup_fault live id lits hints ≡ None

-- an addition by unit propagation, or any deletion
abbrev pub IsGood : LogState → Step → Type 0
IsGood state (Add id lits hints) = AddsByPropagation state.live id lits hints
IsGood state (Del ids) = Unit {0}

-- an added clause: fresh against the clauses that are live before it, not empty, of different variables of the formula
pub record AddsFresh (vars : ℕ) (live : Live) (lits : Clause) : Type 0 where
  pub fresh : IsFresh (clauses_of live) lits
  pub some : 0 < length lits
  pub once : has_variables_once lits ≡ true
  pub within : is_within vars lits ≡ true

abbrev pub IsFreshAddition : ℕ → LogState → Step → Type 0
IsFreshAddition vars state (Add id lits hints) = AddsFresh vars state.live lits
IsFreshAddition vars state (Del ids) = Unit {0}

-- how many added clauses are live before a deletion, at the least
abbrev pub least_added : ℕ → ℕ
least_added deletions = 64 + 64 * deletions

-- a deletion: of live added clauses alone, and rarer with each one before it
pub record DeletesLate (state : LogState) (ids : List ℕ) : Type 0 where
  pub added_alone : list_all (λ id. is_some (find_clause state.added id)) ids ≡ true
  pub late : least_added state.deletions ≤ length state.added

abbrev pub IsLateDeletion : LogState → Step → Type 0
IsLateDeletion state (Add id lits hints) = Unit {0}
IsLateDeletion state (Del ids) = DeletesLate state ids

-- some further clause can be learnt: it is fresh, and hints lead to it
pub record CanBeLearnt (vars : ℕ) (live : Live) (lits : Clause) (hints : List ℤ) : Type 0 where
  pub fresh : IsFresh (clauses_of live) lits
  pub once : has_variables_once lits ≡ true
  pub within : is_within vars lits ≡ true
  pub positive : list_all is_positive hints ≡ true
  pub closes : unit_walk live lits hints ≡ None

abbrev pub SomeCanBeLearnt : ℕ → Live → Type 0
SomeCanBeLearnt vars live = (lits : Clause) × ((hints : List ℤ) × CanBeLearnt vars live lits hints)

-- unit propagation alone doesn't refute the live clauses
abbrev pub IsUnrefuted : Live → Type 0
IsUnrefuted live = (hints : List ℤ) → list_all is_positive hints ≡ true → ¬ (unit_walk live [] hints ≡ None)

abbrev pub live_after : Cnf → List Step → Live
live_after formula steps = (fold log_after (log_start formula) steps).live

-- the steps are the log of a search of the formula that spent its budget of additions
pub record IsSpent (formula : Cnf) (steps : List Step) (budget : ℕ) : Type 0 where
  pub budgeted : count_by is_addition steps ≡ budget
  pub good : EachStep IsGood (log_start formula) steps
  pub additions : EachStep (IsFreshAddition formula.vars) (log_start formula) steps
  pub deletions : EachStep IsLateDeletion (log_start formula) steps
  pub further : SomeCanBeLearnt formula.vars (live_after formula steps)
  pub unrefuted : IsUnrefuted (live_after formula steps)
