-- Whose turn it is, and what turns make of a log.
use Rattle.std.specs.Prelude.{◌≡◌, ℕ, ◌/◌, ◌%◌, ◌^◌, true, List, ◌++◌}
use Rattle.std.specs.List.{list_all}
use Rattle.lls_prooflog.specs.declared.step.Step.{Step}
use Rattle.lls_prooflog.specs.Spent.{is_addition}
use Rattle.lls_solver.specs.declared.outcome.Outcome.{Outcome}
use Rattle.lls_solver.specs.declared.outcome.Outcome.TheVariants.{Sat, Unsat, Undecided}
use Rattle.lls_solver.specs.Searching.{AddsEmpty}

-- it got additions alone, if anything
pub record IsGrown (old new : List Step) : Type 0 where
  pub more : List Step
  pub logged : new ≡ old ++ more
  pub additions : list_all is_addition more ≡ true

-- what the last turn puts into a log: the empty clause where nothing satisfies the formula, and else nothing
abbrev pub EndsBy : Outcome → List Step → List Step → Type 0
EndsBy (Sat values) old new = new ≡ old
EndsBy Unsat old new = AddsEmpty old new
EndsBy Undecided old new = new ≡ old

-- the number that was drawn last, and how many searchers there are
pub record TurnsState : Type 0 where
  pub last : ℕ
  pub searchers : ℕ

-- whose turn a number says it is
abbrev pub turn_of : ℕ → ℕ → ℕ
turn_of number searchers = number / 2 ^ 33 % searchers
