-- The problem's file stands, and then the search's answer is given; or the file failed.
use Rattle.std.proofs.Common.{Some, inl}
use Rattle.lls_cli.specs.declared.fault.Fault.TheVariants.{Outside}
use Rattle.lls_answers.specs.Questions as questions
use Rattle.lls_cli.specs.Ends.{lacked, ahead_failed}
use Rattle.lls_answers.specs.Making.{made_file}
use Rattle.lls_cli.proofs.Deliveries.{failed}
use Rattle.lls_cli.proofs.Ending.{KeepsInput-trans, behind_file, lacks}
use Rattle.lls_cli.proofs.making.give_making.Goals as goal

pub returns-in-Err-clause-end : goal.returns-in-Err-clause-end
returns-in-Err-clause-end g c = (lacked, inl (lacks _ _ _ _ _ (g.met.S.Shelf.faults_fit c.args.outside.now.shelf.now) c.lack.ensures.status c.lack.ensures.line))

pub returns-in-Ok-write_answer_file-clause-end : goal.returns-in-Ok-write_answer_file-clause-end
returns-in-Ok-write_answer_file-clause-end g c =
    let question = questions.Make c.args.seed c.args.size c.args.search c.args.effort in
    let pair = c.in-Ok.ensures in
    behind_file (made_file c.args.seed c.args.size c.args.search) question _ _ _ _ _ _ _ _ (rw pair.file at c.in-Ok-write_answer_file.ensures.written)
    (c.give.ensures.end question (c.solve_made.ensures c.args.seed c.args.size c.args.search pair.made))

pub returns-in-Ok-write_answer_file-clause-input : goal.returns-in-Ok-write_answer_file-clause-input
returns-in-Ok-write_answer_file-clause-input g c =
    KeepsInput-trans c.in-Ok-write_answer_file.ensures.input c.give.ensures.input

pub returns-in-Err-write_answer_file-clause-end : goal.returns-in-Err-write_answer_file-clause-end
returns-in-Err-write_answer_file-clause-end g c = (
  ahead_failed (Outside c.in-Err-write_answer_file.fault),
  failed (Some (made_file c.args.seed c.args.size c.args.search)) c.in-Err-write_answer_file.fault _ _ _ _ _ _
      (rw c.in-Ok.ensures.file at c.in-Err-write_answer_file.ensures.unwritten) c.say.ensures.status c.say.ensures.line,
)
