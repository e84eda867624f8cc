use Rattle.std.proofs.Common.{Err, ap}
use Rattle.lls_cli.proofs.Written.{unwritten, input_behind_file, input_behind_fault}
use Rattle.lls_cli.proofs.deliver.write_answer_file.Goals as goal

pub returns-in-Ok-clause-input : goal.returns-in-Ok-clause-input
returns-in-Ok-clause-input g c = input_behind_file _ _ _ _ c.in-Ok.ensures.ok c.in-Ok.ensures.input

pub returns-in-Err-clause-unwritten : goal.returns-in-Err-clause-unwritten
returns-in-Err-clause-unwritten g c =
    let ended = c.in-Err.ensures in
    let bytes = c.items.ensures in
    rw (c.in-Some.is, c.file_fault.ensures)
    (unwritten c.in-Err.fault c.in-Some.file _ _ (λ is. ended.create_failed (ap Err is)) (λ is. rw bytes at (ended.write_failed (ap Err is))) ended.counts ended.failed)

pub returns-in-Err-clause-input : goal.returns-in-Err-clause-input
returns-in-Err-clause-input g c =
    let ended = c.in-Err.ensures in
    let bytes = c.items.ensures in
    input_behind_fault c.in-Err.fault c.in-Some.file.name c.in-Some.file.bytes _ _ (λ is. ended.create_failed (ap Err is)) (λ is. rw bytes at (ended.write_failed (ap Err is))) ended.input
