-- What a checker is seen as, and what a step makes of it.
use Rattle.std.specs.Prelude.{◌≡◌, ℕ, ◌+◌, [], ◌∷◌, length, Bool, true, false, Option, Some, None, Result, Ok, Err, if◌then◌else◌}
use Rattle.lls_lit.specs.Formula.{Cnf, IsUnsatisfiable}
use Rattle.lls_prooflog.specs.declared.step.Step.{Step}
use Rattle.lls_prooflog.specs.declared.step_fault.StepFault.{StepFault}
use Rattle.lls_prooflog.specs.Steps.{Live, fault_of, after, is_empty_addition, ids_differ, KeepsSatisfiable}
use Rattle.lls_lrat.specs.Hinted.{are_within}
use Rattle.lls_lrat.specs.declared.checker.Progress.{Progress}
use Rattle.lls_lrat.specs.declared.checker.Progress.TheVariants.{Going, Done}

-- the formula, the live clauses, those of them that steps added, and whether the empty clause was added
pub record Checking : Type 0 where
  pub formula : Cnf
  pub live : Live
  pub added : Live
  pub done : Bool

-- how many literals clauses with ids have
abbrev pub literals_of : Live → ℕ
literals_of [] = 0
literals_of (pair ∷ rest) = length pair.1 + literals_of rest

-- the checker after a step with that fault
abbrev pub after_fault : Checking → Step → Option StepFault → Result Checking StepFault
after_fault c step None =
    Ok (record c { live = after c.live step; added = after c.added step; done = is_empty_addition step })
after_fault c step (Some fault) = Err fault

-- the checker after a step, or why the step isn't good. A checker that is done stays as it is
abbrev pub stepped : Checking → Step → Result Checking StepFault
stepped c step = if c.done then Ok c else after_fault c step (fault_of c.live step)

abbrev pub progress_of : Bool → Progress
progress_of true = Done
progress_of false = Going

-- what holds of the parts of a checker, with room for literals of the variables up to this one
pub record IsChecking (formula : Cnf) (live : Live) (vars : ℕ) (done : Bool) : Type 0 where
  pub within : are_within vars live ≡ true
  pub apart : ids_differ live ≡ true
  pub kept : KeepsSatisfiable formula live
  pub refuted : done ≡ true → IsUnsatisfiable formula
