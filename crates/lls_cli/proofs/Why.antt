-- What the standard error says at the status of a fault.
use Rattle.std.proofs.Common.{◌≡◌, Option, Result, Ok, Err, refl, sym, ◌∙◌}
use Rattle.lls_base.specs.Shelf.{Files}
use Rattle.lls_words.specs.declared.error.WordsError.{WordsError}
use Rattle.lls_cli.specs.declared.task.Task.{Task}
use Rattle.lls_answers.specs.declared.answer_file.AnswerFile.{AnswerFile}
use Rattle.lls_cli.specs.declared.fault.Fault.{Fault}
use Rattle.lls_cli.specs.declared.fault.Fault.TheVariants as faults
use Rattle.lls_cli.specs.declared.fault.OutsideFault.TheVariants as outside
use Rattle.lls_answers.specs.declared.status.Status.{Status}
use Rattle.lls_answers.specs.declared.status.Status.TheVariants as statuses
use Rattle.lls_cli.specs.Fault.{status_of}
use Rattle.lls_outside.specs.Moment.{ShelfMoment, Moment, files_at}
use Rattle.lls_cli.specs.Ends.{IsOfInput, LeavesPart, FileFailed, End, refused, lacked, input_failed, ahead_failed, answered, file_failed, output_failed, IsEnd}
use Rattle.lls_cli.specs.Claims.{IsFaultStatus, SaysWhy}
use Rattle.lls_cli.proofs.Behind.{answer_of, lacking}
use Rattle.lls_cli.proofs.Consequences.{no_fault_status, is_answered, ahead_part}

-- a fault of an input that failed is one of the outside
input_status : (fault : Fault) (after : ShelfMoment) → IsOfInput fault after → status_of fault ≡ statuses.Outside
input_status (faults.Outside fault) after is = refl
input_status (faults.Words error) after is = absurd is
input_status (faults.Posed error) after is = absurd is
input_status (faults.Demands error) after is = absurd is
input_status (faults.Dimacs error) after is = absurd is
input_status (faults.NotPlain t y x) after is = absurd is
input_status (faults.Rle error) after is = absurd is
input_status (faults.List error) after is = absurd is
input_status (faults.Pictures error) after is = absurd is
input_status (faults.TooLong limit) after is = absurd is
input_status faults.Memory after is = absurd is

-- and so is that of a file that wasn't written
part_status : (fault : Fault) (file : AnswerFile) (before after : Option Files) → LeavesPart fault file before after → status_of fault ≡ statuses.Outside
part_status (faults.Outside fault) file before after part = refl
part_status (faults.Words error) file before after part = absurd part
part_status (faults.Posed error) file before after part = absurd part
part_status (faults.Demands error) file before after part = absurd part
part_status (faults.Dimacs error) file before after part = absurd part
part_status (faults.NotPlain t y x) file before after part = absurd part
part_status (faults.Rle error) file before after part = absurd part
part_status (faults.List error) file before after part = absurd part
part_status (faults.Pictures error) file before after part = absurd part
part_status (faults.TooLong limit) file before after part = absurd part
part_status faults.Memory file before after part = absurd part

file_says : (written : Option AnswerFile) (fault : Fault) (before after : Moment) (status : Status) → FileFailed written fault before after status → SaysWhy status before.err after.err
file_says written fault before after status failed =
    (fault, failed.status_is ∙ sym (part_status fault failed.file (files_at before.shelf) (files_at after.shelf) failed.part), failed.err)

pub says_why : (task : Result Task WordsError) (before after : Moment) (status : Status) → (end : End) × IsEnd task before after status end → IsFaultStatus status → SaysWhy status before.err after.err
says_why (Ok task) before after status (refused fault, ended) is = (fault, ended.1.2.status_is, ended.1.2.err)
says_why (Ok task) before after status (lacked, ended) is =
    let lacks = (lacking task (files_at before.shelf) before after status ended.1).lacks in (faults.Memory, lacks.status_is, lacks.err)
says_why (Ok task) before after status (input_failed fault, ended) is =
    let failed = ended.1.1 in (fault, failed.status_is ∙ sym (input_status fault after.shelf failed.of_input), failed.err)
says_why (Ok task) before after status (ahead_failed fault, ended) is = file_says _ fault before after status (ahead_part ended.1.0 before after status fault ended.1.2)
says_why (Ok task) before after status (answered answer, ended) is =
    let given = answer_of task (files_at before.shelf) before after status (answered answer) tt ended.1 in
    absurd (no_fault_status status is (is_answered ended.1.0 answer status given.ended.0 given.ended.1.status_is))
says_why (Ok task) before after status (file_failed answer fault, ended) is =
    let given = answer_of task (files_at before.shelf) before after status (file_failed answer fault) tt ended.1 in
    file_says answer.file fault _ after status given.ended.1
says_why (Ok task) before after status (output_failed answer, ended) is =
    let failed = (answer_of task (files_at before.shelf) before after status (output_failed answer) tt ended.1).ended.1 in
    (faults.Outside outside.OutFailed, failed.status_is, failed.err)
says_why (Err error) before after status (refused fault, ended) is = (fault, ended.2.status_is, ended.2.err)
says_why (Err error) before after status (lacked, ended) is = (faults.Memory, ended.1.status_is, ended.1.err)
says_why (Err error) before after status (input_failed fault, ended) is = absurd ended
says_why (Err error) before after status (ahead_failed fault, ended) is = absurd ended
says_why (Err error) before after status (answered answer, ended) is = absurd ended
says_why (Err error) before after status (file_failed answer fault, ended) is = absurd ended
says_why (Err error) before after status (output_failed answer, ended) is = absurd ended
