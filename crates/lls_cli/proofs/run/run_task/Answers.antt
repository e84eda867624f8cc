use Rattle.lls_cli.specs.declared.task.Task.TheVariants as tasks
use Rattle.lls_cli.proofs.Ending.{reads_subject}
use Rattle.lls_cli.proofs.run.run_task.Goals as goal

pub returns-in-Check-clause-end : goal.returns-in-Check-clause-end
returns-in-Check-clause-end g c =
    rw c.in-Check.is (c.give_read.ensures.end (tasks.Check c.in-Check.source c.in-Check.proof) _ (reads_subject c.in-Check.source _) c.answer_check-answer.ensures)

pub returns-in-Judge-clause-end : goal.returns-in-Judge-clause-end
returns-in-Judge-clause-end g c =
    rw c.in-Judge.is (c.give_read-in-Judge.ensures.end (tasks.Judge c.in-Judge.source c.in-Judge.pattern c.in-Judge.rle) _ tt c.answer_judge-answer.ensures)

pub returns-in-Encode-clause-end : goal.returns-in-Encode-clause-end
returns-in-Encode-clause-end g c =
    rw c.in-Encode.is (c.give_read-in-Encode.ensures.end (tasks.Encode c.in-Encode.source) _ (reads_subject c.in-Encode.source _) c.answer_encode-answer.ensures)

pub returns-in-Trim-clause-end : goal.returns-in-Trim-clause-end
returns-in-Trim-clause-end g c =
    rw c.in-Trim.is (c.give_read-in-Trim.ensures.end (tasks.Trim c.in-Trim.formula c.in-Trim.proof c.in-Trim.output) _ tt c.answer_trim-answer.ensures)
