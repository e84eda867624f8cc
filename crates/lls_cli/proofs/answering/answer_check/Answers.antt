use Rattle.std.proofs.Common.{Ok}
use Rattle.std.proofs.lemmas.Result.{err_from_is_err_and}
use Rattle.lls_cli.specs.declared.task.Task.TheVariants as tasks
use Rattle.lls_cli.specs.Question.{made_of, proof_limit, subject_asked}
use Rattle.lls_answers.specs.Questions as questions
use Rattle.lls_outside.specs.Moment.{shelf_at}
use Rattle.lls_cli.proofs.Asked.{Reads-stopped}
use Rattle.lls_cli.proofs.Coming.{comes_refused}
use Rattle.lls_cli.proofs.FedProofs.{check_comes}
use Rattle.lls_cli.proofs.answering.answer_check.Goals as goal

pub returns-in_err-subject : goal.returns-in_err-subject
returns-in_err-subject g c =
    let source = c.args.source in
    let p = err_from_is_err_and c.from_residual.result c.from_residual.ensures.1 in
    rw (p.1, p.2)
    (comes_refused (tasks.Check source c.args.proof.now) _ _ _ _
    (Reads-stopped (subject_asked source) (λ subject. made_of c.args.proof.now proof_limit (λ bytes. Ok (questions.Check subject bytes))) _ (shelf_at g.S.Shelf c.args.shelf.now) (shelf_at g.S.Shelf c.read_subject.new.shelf)
    c.in_err-subject.ensures.read))

pub returns : goal.returns
returns g c =
    check_comes c.args.source c.args.proof.now c.in_ok-subject.subject c.check.result (shelf_at g.S.Shelf c.args.shelf.now) (shelf_at g.S.Shelf c.read_subject.new.shelf) (shelf_at g.S.Shelf c.check.new.shelf)
    c.in_ok-subject.ensures.read c.check.ensures
