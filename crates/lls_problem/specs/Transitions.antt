-- For private contracts alone: lines and columns of the grid and of the ring round it, counted from those before the
-- grid, and whether the transitions into them obey the rule.
use Rattle.std.specs.Prelude.{◌<◌, ℕ, ◌+◌, ℤ, pos, ◌-ℤ◌}
use Rattle.lls_grid.specs.History.{History}
use Rattle.lls_problem.specs.Problem.{PosedProblem}
use Rattle.lls_problem.specs.Firsts.{Place}
use Rattle.lls_problem.specs.Judgement.{IsBound, Succeeds}

-- the first number below `count` that breaks something: all before it keep it
pub record IsFirst (Keeps Breaks : ℕ → Type 0) (count first : ℕ) : Type 0 where
  pub within : first < count
  pub broken : Breaks first
  pub before : (k : ℕ) → k < first → Keeps k

-- the row or the column of a line that counts from the one before the grid
abbrev pub side : ℕ → ℤ
side line = pos line -ℤ pos 1

abbrev pub ring_place : ℕ → ℕ → ℕ → Place
ring_place t line column = record { t = t; y = side line; x = side column }

-- the transition into a place of generation t obeys the rule, where it has to
abbrev pub KeepsRule : PosedProblem → History → ℕ → ℕ → ℕ → Type 0
KeepsRule problem history t line column = IsBound problem (ring_place t line column) → Succeeds problem history (ring_place t line column)

-- it has to, and doesn't
pub record BreaksRule (problem : PosedProblem) (history : History) (t line column : ℕ) : Type 0 where
  pub bound : IsBound problem (ring_place t line column)
  pub broken : Succeeds problem history (ring_place t line column) → ⊥

-- all transitions into a line
abbrev pub KeepsLine : PosedProblem → History → ℕ → ℕ → Type 0
KeepsLine problem history t line = (column : ℕ) → column < problem.posed.width + 2 → KeepsRule problem history t line column

-- the first column of a line that breaks the rule
abbrev pub BreaksLine : PosedProblem → History → ℕ → ℕ → ℕ → Type 0
BreaksLine problem history t column line = IsFirst (KeepsRule problem history t line) (BreaksRule problem history t line) (problem.posed.width + 2) column

-- all transitions into a generation
abbrev pub KeepsGeneration : PosedProblem → History → ℕ → Type 0
KeepsGeneration problem history t = (line : ℕ) → line < problem.posed.height + 2 → KeepsLine problem history t line

-- the first line of a generation that breaks the rule, and the first column in it
abbrev pub BreaksGeneration : PosedProblem → History → ℕ → ℕ → ℕ → Type 0
BreaksGeneration problem history t line column = IsFirst (KeepsLine problem history t) (BreaksLine problem history t column) (problem.posed.height + 2) line
