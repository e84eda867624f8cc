use Rattle.std.proofs.Common.{refl}
use Rattle.lls_cli.specs.declared.task.Task.TheVariants as tasks
use Rattle.lls_answers.specs.Questions as questions
use Rattle.lls_cli.proofs.Ending.{KeepsFiles-refl, KeepsInput-refl, task_ended}
use Rattle.lls_cli.proofs.run.run_make.Goals as goal

pub returns-clause-end : goal.returns-clause-end
returns-clause-end g c =
    let question = questions.Make c.args.seed c.args.size c.args.file c.args.effort in
    task_ended (tasks.Make c.args.seed c.args.size c.args.file c.args.effort) question _ _ _ _ _ _ _ _ refl (KeepsInput-refl _)
    c.give_making.ensures.input (KeepsFiles-refl _) refl c.give_making.ensures.end
