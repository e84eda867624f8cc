-- What an assignment of the formula's variables says of the cells.
use Rattle.std.specs.Prelude.{◌≡◌, Bool, true, List, length, take}
use Rattle.lls_lit.specs.Formula.{Cnf, satisfies}
use Rattle.lls_grid.specs.History.{History, folded, cells_of}
use Rattle.lls_problem.specs.Problem.{PosedProblem}

-- the history whose cells, in their order, have the first values
abbrev pub history_of : PosedProblem → List Bool → History
history_of problem values =
    folded problem.posed.generations problem.posed.height problem.posed.width (take (length problem.posed.cells) values)

-- values of all variables that satisfy the formula, of which the first are those of the history's cells
pub record HasAssignment (formula : Cnf) (history : History) : Type 0 where
  pub values : List Bool
  pub count : length values ≡ formula.vars
  pub cells : take (length (cells_of history)) values ≡ cells_of history
  pub satisfied : satisfies values formula.clauses ≡ true
