use Rattle.std.proofs.Common.{Ok, refl}
use Rattle.lls_answers.specs.Subject.{Subject}
use Rattle.lls_answers.specs.Questions.{Question}
use Rattle.lls_answers.specs.Questions as questions
use Rattle.lls_cli.specs.declared.task.Task.TheVariants as tasks
use Rattle.lls_cli.specs.Question.{Asking, asking_of, come_to, subject_asked}
use Rattle.lls_cli.proofs.Asked.{AsksBy-then, Reads-stopped}
use Rattle.lls_cli.proofs.Ending.{leaves_input, reads_subject, stopped, task_ended}
use Rattle.lls_cli.proofs.run.run_search.Goals as goal

pub returns-in-Ok-clause-end : goal.returns-in-Ok-clause-end
returns-in-Ok-clause-end g c =
    let read = c.in-Ok.ensures.read in
    let source = c.args.source in
    let next : Subject → Asking Question = λ subject. come_to (Ok (questions.Search subject c.args.effort c.args.further.rle)) in
    let task = tasks.Search source c.args.effort c.args.further in
    let question = questions.Search c.in-Ok.subject c.args.effort c.args.further.rle in
    let inputs = reads_subject source next in
    task_ended task question _ _ _ _ _ _ _ _
    (AsksBy-then _ (subject_asked source) next c.in-Ok.subject (Ok question) read.ok.0 refl)
    (leaves_input (asking_of task) _ _ inputs) (leaves_input (asking_of task) _ _ inputs) read.kept read.ok.1 (c.give.ensures.end question c.search.ensures)

pub returns-in-Err-clause-end : goal.returns-in-Err-clause-end
returns-in-Err-clause-end g c =
    let source = c.args.source in
    let next : Subject → Asking Question = λ subject. come_to (Ok (questions.Search subject c.args.effort c.args.further.rle)) in
    let task = tasks.Search source c.args.effort c.args.further in
    let inputs = reads_subject source next in
    let read = Reads-stopped (subject_asked source) next c.in-Err.fault _ _ c.in-Err.ensures.read in
    stopped task c.in-Err.fault _ _ _ _ _ _ (leaves_input (asking_of task) _ _ inputs) read.kept read.counts inputs read.err c.refuse.ensures
