-- For private contracts alone: what each answer of one look for a solution says.
use Rattle.std.specs.Prelude.{List}
use Rattle.lls_prooflog.specs.declared.step.Step.{Step}
use Rattle.lls_prooflog.specs.Spent.{IsSpent}
use Rattle.lls_problem.specs.Problem.{PosedProblem}
use Rattle.lls_problem.specs.Solution.{IsSolution, IsAbsent}
use Rattle.lls_encode.specs.Images.{formulated}
use Rattle.lls_solver.specs.Searching.{IsRefutation, KeepsAll}
use Rattle.lls_least.specs.declared.effort.Effort.{Effort}
use Rattle.lls_least.specs.declared.looking.Finding.{Finding}
use Rattle.lls_least.specs.declared.looking.Finding.TheVariants.{Found, Absent, Undecided}

-- the log of a search that refuted the formula, so there is no solution
pub record ShowsAbsence (p : PosedProblem) (effort : Effort) (steps : List Step) : Type 0 where
  pub proof : IsRefutation (formulated p effort.formulation) effort.budget steps
  pub absent : IsAbsent p
  pub all_kept : KeepsAll effort.keep_all steps

-- the log of a budget that was spent
pub record IsOpen (p : PosedProblem) (effort : Effort) (steps : List Step) : Type 0 where
  pub spent : IsSpent (formulated p effort.formulation) steps effort.budget
  pub all_kept : KeepsAll effort.keep_all steps

abbrev pub IsFinding : PosedProblem → Effort → Finding → Type 0
IsFinding p effort (Found history values) = IsSolution p history
IsFinding p effort (Absent log) = ShowsAbsence p effort log.steps
IsFinding p effort (Undecided log) = IsOpen p effort log.steps
