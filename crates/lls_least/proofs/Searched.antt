-- What a look for a solution says, by what the search of the formula came to.
use Rattle.std.proofs.Common.{◌≡◌, List, subst}
use Rattle.lls_lit.specs.Formula.{Cnf, IsUnsatisfiable}
use Rattle.lls_prooflog.specs.declared.step.Step.{Step}
use Rattle.lls_prooflog.proofs.Soundness.{unsatisfiable_by_propagation}
use Rattle.lls_problem.specs.Problem.{PosedProblem}
use Rattle.lls_problem.specs.Solution.{IsAbsent}
use Rattle.lls_encode.specs.Images.{formulated}
use Rattle.lls_solver.specs.Searching.{IsRefutation, KeepsAll}
use Rattle.lls_least.specs.declared.effort.Effort.{Effort}
use Rattle.lls_least.specs.Finding.{ShowsAbsence}

-- a refutation shows that there is no solution
pub absence_from : (p : PosedProblem) (effort : Effort) (formula : Cnf) (steps : List Step) → formula ≡ formulated p effort.formulation → (IsUnsatisfiable formula → IsAbsent p)
    → IsRefutation formula effort.budget steps → KeepsAll effort.keep_all steps → ShowsAbsence p effort steps
absence_from p effort formula steps same none refutation kept = record {
  proof = subst (λ (f : Cnf). IsRefutation f effort.budget steps) same refutation;
  absent = none (unsatisfiable_by_propagation formula steps refutation.good refutation.accepted);
  all_kept = kept;
}
