-- How many clauses there are: a clause is a number in base 3, with a digit for each variable. So logs of fresh clauses have an end.
use Rattle.std.specs.Prelude.{◌≡◌, ◌<◌, ◌≤◌, ◌+◌, ◌-◌, ◌*◌, ◌^◌, ℕ, zero, suc, ℤ, pos, true, List, length, fold, count_by, if◌then◌else◌}
use Rattle.std.specs.List.{list_all, Contains}
use Rattle.lls_lit.specs.Literal.{negation}
use Rattle.lls_lit.specs.Formula.{Clause, Cnf, is_within}
use Rattle.lls_prooflog.specs.declared.step.Step.{Step}
use Rattle.lls_prooflog.specs.UnitWalk.{is_among}
use Rattle.lls_prooflog.specs.Fresh.{IsFresh}
use Rattle.lls_prooflog.specs.Spent.{LogState, log_start, log_after, is_addition, EachStep, IsFreshAddition, IsLateDeletion, IsSpent, has_variables_once}

-- the same clause as a set of literals
abbrev pub HaveSameLiterals : Clause → Clause → Type 0
HaveSameLiterals one other = (l : ℤ) → is_among one l ≡ is_among other l

-- a fresh clause differs as a set from each clause that it is fresh against
abbrev pub FreshClausesDiffer : Type 0
FreshClausesDiffer = (clauses : List Clause) (clause other : Clause) → IsFresh clauses clause → Contains clauses other → ¬ HaveSameLiterals other clause

-- 0 where the clause has no literal of the variable, 1 where it has the variable, 2 where it has the negation
abbrev pub digit_of : Clause → ℕ → ℕ
digit_of clause v = if is_among clause (pos v) then 1 else if is_among clause (negation (pos v)) then 2 else 0

-- the clause's digits as a number in base 3: that of variable v has the weight 3 to the power of v - 1
abbrev pub number_of : ℕ → Clause → ℕ
number_of zero clause = 0
number_of (suc n) clause = digit_of clause (suc n) * 3 ^ n + number_of n clause

-- a nonempty clause has a number from 1 to one less than the power
abbrev pub ClausesAreNumbered : Type 0
ClausesAreNumbered = (vars : ℕ) (clause : Clause) → 0 < length clause → is_within vars clause ≡ true
    → (1 ≤ number_of vars clause) × (number_of vars clause < 3 ^ vars)

-- clauses without a variable twice that have one number are the same
abbrev pub NumbersTellClauses : Type 0
NumbersTellClauses = (vars : ℕ) (one other : Clause) → is_within vars one ≡ true → is_within vars other ≡ true
    → has_variables_once one ≡ true → has_variables_once other ≡ true
    → number_of vars one ≡ number_of vars other → HaveSameLiterals one other

abbrev pub state_after : Cnf → List Step → LogState
state_after formula steps = fold log_after (log_start formula) steps

-- what a search writes down: each addition is fresh in its turn, and each deletion late
pub record IsFreshLog (formula : Cnf) (steps : List Step) : Type 0 where
  pub additions : EachStep (IsFreshAddition formula.vars) (log_start formula) steps
  pub deletions : EachStep IsLateDeletion (log_start formula) steps

-- fewer added clauses are live than there are numbers
abbrev pub AddedClausesAreFew : Type 0
AddedClausesAreFew = (formula : Cnf) (steps : List Step) → IsFreshLog formula steps → length (state_after formula steps).added < 3 ^ formula.vars

-- behind r deletions come at most r + 1 times as many additions as there are numbers, and 64 r is less than those
abbrev pub AdditionsAreFew : Type 0
AdditionsAreFew = (formula : Cnf) (steps : List Step) → IsFreshLog formula steps
    → (count_by is_addition steps ≤ ((state_after formula steps).deletions + 1) * (3 ^ formula.vars - 1))
    × (64 * (state_after formula steps).deletions < 3 ^ formula.vars)

-- so a budget of 9 to the number of variables is never spent
abbrev pub BudgetsDecide : Type 0
BudgetsDecide = (formula : Cnf) (steps : List Step) (budget : ℕ) → IsSpent formula steps budget → budget < 9 ^ formula.vars

-- and where nothing is deleted, none of 3 to that number
abbrev pub KeptBudgetsDecide : Type 0
KeptBudgetsDecide = (formula : Cnf) (steps : List Step) (budget : ℕ) → IsSpent formula steps budget
    → list_all is_addition steps ≡ true → budget < 3 ^ formula.vars
