-- What the clauses before the transitions say of a history, and those behind them.
use Rattle.std.specs.Prelude.{◌≡◌, ℕ, ◌+◌, Bool, true, List, ◌++◌, length}
use Rattle.lls_lit.specs.Formula.{Clause, satisfies}
use Rattle.lls_grid.specs.History.{History, cells_of}
use Rattle.lls_problem.specs.Problem.{PosedProblem}
use Rattle.lls_problem.specs.Solution.{MeetsCells, AreSymmetric, Returns, IsPopulated, Differs, IsExact, IsUnlisted}
use Rattle.lls_encode.specs.Formula.{bounds_part, bounds_vars, difference_part, difference_vars}

-- fixed cells and names are as the file says, and each generation is symmetric, and there again a period later, as asked
pub record MeetsBefore (problem : PosedProblem) (history : History) : Type 0 where
  pub cells : MeetsCells problem.posed.cells (cells_of history)
  pub symmetric : AreSymmetric problem history
  pub moved : Returns problem history

-- bounds on live cells are kept, two generations differ, the period is exact, and generation 0 is no listed pattern, as asked
pub record MeetsAfter (problem : PosedProblem) (history : History) : Type 0 where
  pub populated : IsPopulated problem history
  pub differ : Differs problem history
  pub exact : IsExact problem history
  pub unlisted : IsUnlisted problem history

-- the clauses behind the transitions, whose variables stand behind the first `base`
abbrev pub after_part : PosedProblem → ℕ → List Clause
after_part p base = bounds_part p base ++ difference_part p (base + bounds_vars p)

-- and how many variables that are
abbrev pub after_vars : PosedProblem → ℕ
after_vars p = bounds_vars p + difference_vars p

-- values of these variables, behind others, that satisfy these clauses, whatever values stand behind them
pub record HasExtension (problem : PosedProblem) (values : List Bool) : Type 0 where
  pub more : List Bool
  pub count : length more ≡ after_vars problem
  pub satisfied : (further : List Bool) → satisfies (values ++ (more ++ further)) (after_part problem (length values)) ≡ true
