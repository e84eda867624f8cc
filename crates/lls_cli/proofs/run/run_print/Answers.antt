use Rattle.std.proofs.Common.{refl}
use Rattle.lls_cli.specs.declared.task.Task.TheVariants as tasks
use Rattle.lls_answers.specs.Questions as questions
use Rattle.lls_cli.proofs.Ending.{KeepsFiles-refl, KeepsInput-refl, task_ended}
use Rattle.lls_cli.proofs.run.run_print.Goals as goal

pub returns-clause-end : goal.returns-clause-end
returns-clause-end g c =
    let question = questions.Print c.args.rule.now in
    task_ended (tasks.Print c.args.rule.now) question _ _ _ _ _ _ _ _ refl (KeepsInput-refl _) c.give.ensures.input (KeepsFiles-refl _) refl
    (c.give.ensures.end question c.print_rule.ensures)
