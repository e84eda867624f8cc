-- What a task asks, once its inputs are read. The program has no such values: a proof goes through its checker as it is read.
use Rattle.std.specs.Prelude.{ℕ, Bool, List}
use Rattle.lls_lit.specs.Formula.{Cnf}
use Rattle.lls_grid.specs.History.{History}
use Rattle.lls_problem.specs.Problem.{PosedProblem}
use Rattle.lls_least.specs.declared.extreme.Extreme.{Extreme}
use Rattle.lls_answers.specs.Subject.{Subject}
use Rattle.lls_answers.specs.declared.asked.Asked.{Asked}
use Rattle.lls_answers.specs.declared.effort.Effort.{Effort}

-- do the bytes of a proof show that there is nothing to find?
-- what is there to find, if anything, shown as a picture where the last is true?
-- is the history a solution of the problem?
-- what is the formula? what is the rule's canonical text?
-- which solution has the problem that is made of the seed and the size, once it is written to a search file of the name?
-- which solution has the fewest live cells in generation 0, or the most, if there is one?
-- which additions of a formula's proof does the empty clause rest on? They go to a file of the name
pub data Question : Type 0 where
  Check : Subject → List ℕ → Question
  Search : Subject → Effort → Bool → Question
  Judge : PosedProblem → History → Question
  Encode : Subject → Question
  Print : List Bool → Question
  Make : ℕ → ℕ → List ℕ → Effort → Question
  Extremal : Extreme → Asked → Effort → Bool → Question
  Trim : Cnf → List ℕ → List ℕ → Question
