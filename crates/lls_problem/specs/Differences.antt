-- For private contracts alone: cells that are the same in two generations.
use Rattle.std.specs.Prelude.{◌≡◌, ◌<◌, ℕ, pos}
use Rattle.lls_grid.specs.History.{History, at}
use Rattle.lls_problem.specs.Problem.{PosedProblem}

abbrev pub AreAlikeAt : PosedProblem → History → ℕ → ℕ → ℕ → ℕ → Type 0
AreAlikeAt problem history s t y x = at problem.rule history s (pos y) (pos x) ≡ at problem.rule history t (pos y) (pos x)

abbrev pub AreAlikeInRow : PosedProblem → History → ℕ → ℕ → ℕ → Type 0
AreAlikeInRow problem history s t y = (x : ℕ) → x < problem.posed.width → AreAlikeAt problem history s t y x

abbrev pub AreAlike : PosedProblem → History → ℕ → ℕ → Type 0
AreAlike problem history s t = (y : ℕ) → y < problem.posed.height → AreAlikeInRow problem history s t y
