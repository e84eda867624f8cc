-- Which history comes first of those that are images of one another.
use Rattle.std.specs.Prelude.{◌≡◌, ◌≤◌, ℕ, true, List, [], ◌∷◌, All}
use Rattle.std.specs.List.{list_all}
use Rattle.lls_rule.specs.Rule.{number_of}
use Rattle.lls_grid.specs.History.{History, cells_of_rows, rows_at}
use Rattle.lls_symmetry.specs.declared.motion.Motion.{Motion}
use Rattle.lls_problem.specs.Problem.{PosedProblem}
use Rattle.lls_problem.specs.Solution.{IsSolution}
use Rattle.lls_images.specs.Image.{image}
use Rattle.lls_images.specs.Same.{looks_the_same, same_motions}

-- the cells of generation 0 in the order row, column, read as a binary number
abbrev pub beginning : History → ℕ
beginning history = number_of (cells_of_rows (rows_at history 0))

-- No image under a motion under which the problem looks the same has a greater number: where it first differs from one,
-- its cell is live.
abbrev pub IsFirst : PosedProblem → History → Type 0
IsFirst problem history =
    All (λ motion. beginning (image motion problem.posed.height problem.posed.width history) ≤ beginning history) (same_motions problem)

-- a history after motions, one behind the other
abbrev pub taken_by : PosedProblem → List Motion → History → History
taken_by problem [] history = history
taken_by problem (motion ∷ motions) history = taken_by problem motions (image motion problem.posed.height problem.posed.width history)

-- Motions under which the problem looks the same take the one to the other: both are of one kind.
pub record AreOfOneKind (problem : PosedProblem) (history other : History) : Type 0 where
  pub motions : List Motion
  pub same : list_all (looks_the_same problem) motions ≡ true
  pub taken : taken_by problem motions history ≡ other

-- a solution that comes first, of the kind of a history
pub record IsFirstOfKind (problem : PosedProblem) (history other : History) : Type 0 where
  pub kind : AreOfOneKind problem history other
  pub solution : IsSolution problem other
  pub first : IsFirst problem other

-- of the kind of each solution there is one that comes first
abbrev pub FirstLaw : PosedProblem → Type 0
FirstLaw problem = (history : History) → IsSolution problem history → (first : History) × IsFirstOfKind problem history first
