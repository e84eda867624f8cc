use Rattle.std.proofs.Common.{Ok, refl}
use Rattle.std.proofs.lemmas.Result.{err_from_is_err_and}
use Rattle.lls_answers.specs.Subject.{Subject}
use Rattle.lls_answers.specs.Questions.{Question}
use Rattle.lls_answers.specs.Questions as questions
use Rattle.lls_outside.specs.Moment.{files_at, shelf_at}
use Rattle.lls_cli.specs.declared.task.Task.TheVariants as tasks
use Rattle.lls_cli.specs.Question.{Asking, AsksBy, Asks, come_to, subject_asked}
use Rattle.lls_cli.proofs.Asked.{AsksBy-then, ComesTo-answered, Reads-ok, Reads-stopped}
use Rattle.lls_cli.proofs.Coming.{comes_refused}
use Rattle.lls_cli.proofs.answering.answer_encode.Goals as goal

pub returns-in_err-subject : goal.returns-in_err-subject
returns-in_err-subject g c =
    let source = c.args.source in
    let p = err_from_is_err_and c.from_residual.result c.from_residual.ensures.1 in
    rw (p.1, p.2)
    (comes_refused (tasks.Encode source) _ _ _ _
    (Reads-stopped (subject_asked source) (λ subject. come_to (Ok (questions.Encode subject))) _ (shelf_at g.S.Shelf c.args.shelf.now) (shelf_at g.S.Shelf c.read_subject.new.shelf) c.in_err-subject.ensures.read))

pub returns : goal.returns
returns g c =
    let source = c.args.source in
    let subject = c.in_ok-subject.subject in
    let before = shelf_at g.S.Shelf c.args.shelf.now in
    let mid = shelf_at g.S.Shelf c.read_subject.new.shelf in
    let next : Subject → Asking Question = λ subject. come_to (Ok (questions.Encode subject)) in
    ComesTo-answered (tasks.Encode source) (questions.Encode subject) c.in_ok-print_formula.field-0 before mid
    (Reads-ok (AsksBy (files_at before) (subject_asked source)) (Asks (tasks.Encode source) (files_at before)) subject (questions.Encode subject) before mid
    (λ asked. AsksBy-then (files_at before) (subject_asked source) next subject (Ok (questions.Encode subject)) asked refl) c.in_ok-subject.ensures.read)
    refl c.in_ok-print_formula.ensures
