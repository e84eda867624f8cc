use Rattle.std.proofs.Common.{subst}
use Rattle.lls_lit.specs.Formula.{Cnf, IsUnsatisfiable}
use Rattle.lls_answers.specs.Questions as questions
use Rattle.lls_answers.specs.Subject.{HasNone, subject_formula}
use Rattle.lls_answers.specs.Subject as subjects
use Rattle.lls_answers.proofs.Checks.{checked_answer}
use Rattle.lls_cli.proofs.FedProofs.{comes_along}
use Rattle.lls_cli.proofs.Stopped.{Reads-along}
use Rattle.lls_cli.proofs.check.check.Goals as goal

pub returns : goal.returns
returns g c =
    let subject = c.args.subject.now in
    let is = c.formula.ensures.formula in
    let none : IsUnsatisfiable (subject_formula subject) → HasNone subject = subst (λ (f : Cnf). IsUnsatisfiable f → HasNone subject) is c.formula.ensures.none in
    Reads-along _ _ c.refute.result _ _
    (comes_along (questions.Check (subjects.Formula (subject_formula subject))) (questions.Check subject) _ _ (λ bytes answer right. checked_answer subject bytes answer none right))
    (rw is at c.refute.ensures)
