-- The rule on the whole plane: where the edge is closed and nothing is marked, a solution obeys it at every place.
use Rattle.std.specs.Prelude.{◌≡◌, ◌<◌, ℕ, ◌+◌, ℤ, false}
use Rattle.lls_rule.specs.Rule.{successor}
use Rattle.lls_grid.specs.History.{History, at, nine}
use Rattle.lls_search_file.specs.Posed.{PosedFile}
use Rattle.lls_problem.specs.declared.demands.Edge.TheVariants.{Framed}
use Rattle.lls_problem.specs.Problem.{PosedProblem}
use Rattle.lls_problem.specs.Solution.{is_marked}

-- no cell of a generation from 1 on is marked
abbrev pub AreUnmarked : PosedFile → Type 0
AreUnmarked file = (t : ℕ) (y x : ℤ) → 0 < t → t < file.generations → is_marked file t y x ≡ false

-- from each generation to the next, each place, however far from the grid, has the rule's successor
abbrev pub ObeysEverywhere : PosedProblem → History → Type 0
ObeysEverywhere problem history = (t : ℕ) (y x : ℤ) → t + 1 < problem.posed.generations
    → at problem.rule history (t + 1) y x ≡ successor problem.rule (nine problem.rule history t y x)

-- under a closed edge and without marks the history does so
abbrev pub PlaneLaw : PosedProblem → History → Type 0
PlaneLaw problem history = problem.demands.edge ≡ Framed → AreUnmarked problem.posed → ObeysEverywhere problem history
