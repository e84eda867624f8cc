use Rattle.std.proofs.Common.{Ok, subst, sym}
use Rattle.std.proofs.lemmas.Result.{err_from_is_err_and}
use Rattle.lls_hensel.specs.Isotropy.{IsIsotropic}
use Rattle.lls_outside.specs.Moment.{shelf_at}
use Rattle.lls_answers.specs.Subject.{CanBePrinted, asked_with, opened_with}
use Rattle.lls_answers.specs.Subject as subjects
use Rattle.lls_cli.specs.Question.{come_to, problem_asked, with_few_cells}
use Rattle.lls_cli.specs.Task.{IsPrintable}
use Rattle.lls_cli.proofs.Asked.{Reads-stopped}
use Rattle.lls_cli.proofs.input.read_subject.Goals as goal

pub returns-in_ok-of_problem-in-Problem-clause-printable : goal.returns-in_ok-of_problem-in-Problem-clause-printable
returns-in_ok-of_problem-in-Problem-clause-printable g c =
    λ printable.
    let own : IsIsotropic c.in-Problem.source.rule = subst IsPrintable c.in-Problem.is printable in
    subst CanBePrinted (sym c.in_ok-of_problem-in-Problem.ensures) (subst IsIsotropic (sym c.in_ok-problem-in-Problem.ensures.rule) own)

pub returns-in_err-problem-in-Problem-clause-read : goal.returns-in_err-problem-in-Problem-clause-read
returns-in_err-problem-in-Problem-clause-read g c =
    let source = c.in-Problem.source in
    let p = err_from_is_err_and c.from_residual.result c.from_residual.ensures.1 in
    rw (p.1, p.2, c.in-Problem.is)
    (Reads-stopped (problem_asked Ok source) (λ problem. come_to (Ok (subjects.Problem (asked_with c.in-Problem.formulation problem)))) _ (shelf_at g.S.Shelf c.args.shelf.now) (shelf_at g.S.Shelf c.read_problem.new.shelf)
    c.in_err-problem-in-Problem.ensures.read)

pub returns-in_err-problem-in-Rules-clause-read : goal.returns-in_err-problem-in-Rules-clause-read
returns-in_err-problem-in-Rules-clause-read g c =
    let source = c.in-Rules.source in
    let p = err_from_is_err_and c.from_residual-in_err-problem-in-Rules.result c.from_residual-in_err-problem-in-Rules.ensures.1 in
    rw (p.1, p.2, c.in-Rules.is)
    (Reads-stopped (problem_asked with_few_cells source) (λ problem. come_to (Ok (subjects.Rules (opened_with c.in-Rules.high c.in-Rules.form problem)))) _ (shelf_at g.S.Shelf c.args.shelf.now) (shelf_at g.S.Shelf c.read_small_problem.new.shelf)
    c.in_err-problem-in-Rules.ensures.read)
