-- What a failure of the outside leaves of the files that a run writes.
use Rattle.std.proofs.Common.{◌≡◌, length, Option, None, Some, Result, Ok, Err, ap, sym, subst, ◌∙◌, inl, inr, arith}
use Rattle.std.specs.FinMap as map
use Rattle.std.specs.Option.{option_map}
use Rattle.std.proofs.lemmas.List.{take_all}
use Rattle.lls_base.specs.Shelf.{Files}
use Rattle.lls_words.specs.declared.error.WordsError.{WordsError}
use Rattle.lls_cli.specs.declared.task.Task.{Task}
use Rattle.lls_answers.specs.Questions.{Question}
use Rattle.lls_answers.specs.declared.answer_file.AnswerFile.{AnswerFile}
use Rattle.lls_answers.specs.declared.answer.Answer.{Answer}
use Rattle.lls_cli.specs.declared.fault.Fault.{Fault}
use Rattle.lls_cli.specs.declared.fault.Fault.TheVariants as faults
use Rattle.lls_cli.specs.declared.fault.OutsideFault.TheVariants as outside
use Rattle.lls_answers.specs.declared.status.Status.{Status}
use Rattle.lls_answers.specs.declared.status.Status.TheVariants as statuses
use Rattle.lls_outside.specs.Moment.{ShelfMoment, Moment, files_at}
use Rattle.lls_answers.specs.Answer.{ahead_of}
use Rattle.lls_cli.specs.Ends.{LeavesPart, End, refused, lacked, input_failed, ahead_failed, answered, file_failed, output_failed, IsEnd}
use Rattle.lls_answers.specs.Standing.{with_file}
use Rattle.lls_cli.specs.Claims.{IsAnswered, IsBegun, IsBegunFor, LeavesBegun}
use Rattle.lls_cli.proofs.Behind.{WroteAhead, answer_of, lacking}
use Rattle.lls_answers.proofs.Standing.{option_map-none}
use Rattle.lls_cli.proofs.Consequences.{no_fault_status, is_answered, ahead_part, of_question}

-- a file that failed
begun_some : (fault : Fault) (file : AnswerFile) (before after : Option Files) → LeavesPart fault file before after → IsBegun (Some file) before after
begun_some (faults.Outside outside.CreateFailed) file before after part = inl part
begun_some (faults.Outside outside.WriteFailed) file before after part = inr (part.0, part.2)
begun_some (faults.Outside outside.NoFile) file before after part = absurd part
begun_some (faults.Outside outside.OpenFailed) file before after part = absurd part
begun_some (faults.Outside outside.ReadFailed) file before after part = absurd part
begun_some (faults.Outside outside.OutFailed) file before after part = absurd part
begun_some (faults.Words error) file before after part = absurd part
begun_some (faults.Posed error) file before after part = absurd part
begun_some (faults.Demands error) file before after part = absurd part
begun_some (faults.Dimacs error) file before after part = absurd part
begun_some (faults.NotPlain t y x) file before after part = absurd part
begun_some (faults.Rle error) file before after part = absurd part
begun_some (faults.List error) file before after part = absurd part
begun_some (faults.Pictures error) file before after part = absurd part
begun_some (faults.TooLong limit) file before after part = absurd part
begun_some faults.Memory file before after part = absurd part

begun : (written : Option AnswerFile) (fault : Fault) (file : AnswerFile) (before after : Option Files) → written ≡ Some file → LeavesPart fault file before after → IsBegun written before after
begun written fault file before after is part = subst (λ w. IsBegun w before after) (sym is) (begun_some fault file before after part)

-- a file that was written whole has all of its text
whole : (written : Option AnswerFile) (before after : Option Files) → after ≡ option_map (with_file written) before → IsBegun written before after
whole None before after is = is ∙ option_map-none before
whole (Some file) before after is =
    inr (length file.bytes, is ∙ ap (λ bytes. option_map (λ files. map.insert files file.name bytes) before) (sym (take_all (length file.bytes) file.bytes (omega arith))))

-- the files once the one that is written ahead stands
ahead_files : (ahead : Option AnswerFile) (before mid : ShelfMoment) → WroteAhead ahead before mid → files_at mid ≡ option_map (with_file ahead) (files_at before)
ahead_files None before mid same = ap files_at same ∙ sym (option_map-none (files_at before))
ahead_files (Some file) before mid wrote = wrote.files

-- the file of an answer was begun from there
behind_ahead : (question : Question) (answer : Answer) (before mid : ShelfMoment) (after : Option Files) → WroteAhead (ahead_of question) before mid
    → IsBegun answer.file (files_at mid) after → IsBegun answer.file (option_map (with_file (ahead_of question)) (files_at before)) after
behind_ahead question answer before mid after wrote is = subst (λ files. IsBegun answer.file files after) (ahead_files (ahead_of question) before mid wrote) is

pub leaves_begun : (task : Result Task WordsError) (before after : Moment) (status : Status) → (end : End) × IsEnd task before after status end → status ≡ statuses.Outside
    → LeavesBegun task (files_at before.shelf) (files_at after.shelf)
leaves_begun (Ok task) before after status (refused fault, ended) is = inl ended.1.2.shelf.files
leaves_begun (Ok task) before after status (lacked, ended) is =
    let memory = (lacking task (files_at before.shelf) before after status ended.1).lacks.status_is in absurd cc
leaves_begun (Ok task) before after status (input_failed fault, ended) is = inl ended.1.1.shelf.files
leaves_begun (Ok task) before after status (ahead_failed fault, ended) is =
    let question = ended.1.0 in
    let failed = ahead_part question before after status fault ended.1.2 in
    inr (of_question (IsBegunFor (files_at before.shelf) (files_at after.shelf)) task (files_at before.shelf) question ended.1.1
    (inl (begun (ahead_of question) fault failed.file (files_at before.shelf) (files_at after.shelf) failed.file_is failed.part)))
leaves_begun (Ok task) before after status (answered answer, ended) is =
    let given = answer_of task (files_at before.shelf) before after status (answered answer) tt ended.1 in
    absurd (no_fault_status statuses.Outside tt (subst IsAnswered is (is_answered ended.1.0 answer status given.ended.0 given.ended.1.status_is)))
leaves_begun (Ok task) before after status (file_failed answer fault, ended) is =
    let question = ended.1.0 in
    let given = answer_of task (files_at before.shelf) before after status (file_failed answer fault) tt ended.1 in
    let failed = given.ended.1 in
    inr (of_question (IsBegunFor (files_at before.shelf) (files_at after.shelf)) task (files_at before.shelf) question ended.1.1
    (inr (
      answer,
      given.ended.0,
      behind_ahead question answer before.shelf given.mid (files_at after.shelf) given.wrote
          (begun answer.file fault failed.file (files_at given.mid) (files_at after.shelf) failed.file_is failed.part),
    )))
leaves_begun (Ok task) before after status (output_failed answer, ended) is =
    let question = ended.1.0 in
    let given = answer_of task (files_at before.shelf) before after status (output_failed answer) tt ended.1 in
    inr (of_question (IsBegunFor (files_at before.shelf) (files_at after.shelf)) task (files_at before.shelf) question ended.1.1
    (inr (
      answer,
      given.ended.0,
      behind_ahead question answer before.shelf given.mid (files_at after.shelf) given.wrote
          (whole answer.file (files_at given.mid) (files_at after.shelf) given.ended.1.shelf.files),
    )))
leaves_begun (Err error) before after status (refused fault, ended) is = inl (ap files_at ended.1)
leaves_begun (Err error) before after status (lacked, ended) is = inl (ap files_at ended.0)
leaves_begun (Err error) before after status (input_failed fault, ended) is = absurd ended
leaves_begun (Err error) before after status (ahead_failed fault, ended) is = absurd ended
leaves_begun (Err error) before after status (answered answer, ended) is = absurd ended
leaves_begun (Err error) before after status (file_failed answer fault, ended) is = absurd ended
leaves_begun (Err error) before after status (output_failed answer, ended) is = absurd ended
