-- The rules between two rules, and solutions of a problem whose rule is one of them.
use Rattle.std.specs.Prelude.{◌≡◌, ◌<◌, ℕ, Bool, true, false, List, length}
use Rattle.lls_rule.specs.declared.rule.TheConstants.Rule.{NEIGHBOURHOODS}
use Rattle.lls_rule.specs.Rule.{answer}
use Rattle.lls_hensel.specs.Isotropy.{IsIsotropic}
pub use Rattle.lls_hensel.specs.Ends.{AreEnds}
use Rattle.lls_grid.specs.History.{History}
use Rattle.lls_problem.specs.Problem.{PosedProblem}
use Rattle.lls_problem.specs.Solution.{IsSolution}

-- an isotropic rule that gives 1 wherever the low one does, and 0 wherever the high one does
pub record IsBetween (low high rule : List Bool) : Type 0 where
  pub whole : length rule ≡ NEIGHBOURHOODS
  pub isotropic : IsIsotropic rule
  pub above : (nine : ℕ) → nine < NEIGHBOURHOODS → answer low nine ≡ true → answer rule nine ≡ true
  pub below : (nine : ℕ) → nine < NEIGHBOURHOODS → answer high nine ≡ false → answer rule nine ≡ false

-- the problem with another rule
abbrev pub with_rule : PosedProblem → List Bool → PosedProblem
with_rule problem rule = record problem { rule = rule }

-- a history, and a rule between the problem's and the high one by which it is a solution
pub record IsOpenSolution (problem : PosedProblem) (high : List Bool) (history : History) (rule : List Bool) : Type 0 where
  pub between : IsBetween problem.rule high rule
  pub solution : IsSolution (with_rule problem rule) history

-- no history and no rule between are
abbrev pub IsOpenlyAbsent : PosedProblem → List Bool → Type 0
IsOpenlyAbsent problem high = (history : History) (rule : List Bool) → IsOpenSolution problem high history rule → ⊥
