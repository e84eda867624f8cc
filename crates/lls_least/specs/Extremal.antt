-- What each answer of a search for the fewest live cells, or for the most, says.
use Rattle.std.specs.Prelude.{◌≡◌, ◌≤◌, ℕ, List, [], Option, None, Some}
use Rattle.lls_grid.specs.History.{History}
use Rattle.lls_prooflog.specs.declared.step.Step.{Step}
use Rattle.lls_prooflog.specs.Log.{Logged}
use Rattle.lls_prooflog.specs.Spent.{IsSpent}
use Rattle.lls_problem.specs.declared.bounds.Bound.{Bound}
use Rattle.lls_problem.specs.declared.form.Formulation.{Formulation}
use Rattle.lls_problem.specs.Bounds.{grid_size}
use Rattle.lls_problem.specs.Problem.{PosedProblem}
use Rattle.lls_problem.specs.Solution.{IsSolution, IsAbsent}
use Rattle.lls_encode.specs.Images.{formulated}
use Rattle.lls_solver.specs.Searching.{IsRefutation}
use Rattle.lls_least.specs.declared.answer.Extremal.{Extremal}
use Rattle.lls_least.specs.declared.answer.Extremal.TheVariants.{Shown, Absent, Reached, Unsettled}
use Rattle.lls_least.specs.declared.extreme.Extreme.{Extreme}
use Rattle.lls_least.specs.declared.extreme.Extreme.TheVariants as extremes
use Rattle.lls_least.specs.Bounded.{beyond, bounded, live_cells}

-- m live cells are no fewer than n, or no more
abbrev pub NotBeyond : Extreme → ℕ → ℕ → Type 0
NotBeyond extremes.Fewest n m = n ≤ m
NotBeyond extremes.Most n m = m ≤ n

-- no solution has fewer live cells in generation 0 than this history, or none has more
abbrev pub IsExtreme : Extreme → PosedProblem → History → Type 0
IsExtreme extreme p history = (other : History) → IsSolution p other → NotBeyond extreme (live_cells history) (live_cells other)

-- steps that show that there is no solution within this bound: the log of a search that refuted the formula of the problem with it. Where there is
-- no bound nothing has to be shown, and there are none
abbrev pub Certifies : PosedProblem → Formulation → ℕ → List Step → Option Bound → Type 0
Certifies p formulation budget steps None = steps ≡ []
Certifies p formulation budget steps (Some bound) = IsRefutation (formulated (bounded p bound) formulation) budget steps

-- the bound that a solution beyond a history would keep
abbrev pub beyond_it : Extreme → PosedProblem → History → Option Bound
beyond_it extreme p history = beyond extreme (grid_size p.posed) (live_cells history)

-- a solution, and steps that show that there is none beyond it
pub record IsShown (extreme : Extreme) (p : PosedProblem) (formulation : Formulation) (budget : ℕ) (history : History) (steps : List Step) : Type 0 where
  pub solution : IsSolution p history
  pub certified : Certifies p formulation budget steps (beyond_it extreme p history)

-- a solution, and the log of a budget that was spent on the question for one beyond it
pub record IsReached (extreme : Extreme) (p : PosedProblem) (formulation : Formulation) (budget : ℕ) (history : History) (steps : List Step) : Type 0 where
  pub solution : IsSolution p history
  pub bound : Bound
  pub asked : beyond_it extreme p history ≡ Some bound
  pub spent : IsSpent (formulated (bounded p bound) formulation) steps budget

abbrev pub IsExtremal : Extreme → PosedProblem → Formulation → ℕ → Extremal → Type 0
IsExtremal extreme p formulation budget (Shown history log) = IsShown extreme p formulation budget history log.steps
IsExtremal extreme p formulation budget (Absent log) = IsRefutation (formulated p formulation) budget log.steps
IsExtremal extreme p formulation budget (Reached history log) = IsReached extreme p formulation budget history log.steps
IsExtremal extreme p formulation budget (Unsettled log) = IsSpent (formulated p formulation) log.steps budget

-- what it says of all histories, whatever formula was searched
abbrev pub Settles : Extreme → PosedProblem → Extremal → Type 0
Settles extreme p (Shown history log) = IsExtreme extreme p history
Settles extreme p (Absent log) = IsAbsent p
Settles extreme p (Reached history log) = Unit {0}
Settles extreme p (Unsettled log) = Unit {0}

abbrev pub log_of : Extremal → Logged
log_of (Shown history log) = log
log_of (Absent log) = log
log_of (Reached history log) = log
log_of (Unsettled log) = log
