-- How an answer was given, by how its file and its text were.
use Rattle.std.proofs.Common.{◌≡◌, Option, Result, Ok, Err, refl}
use Rattle.lls_base.specs.declared.sink.Failed.{Failed}
use Rattle.lls_answers.specs.declared.answer_file.AnswerFile.{AnswerFile}
use Rattle.lls_answers.specs.declared.answer.Answer.{Answer}
use Rattle.lls_cli.specs.declared.fault.Fault.TheVariants.{Outside}
use Rattle.lls_cli.specs.declared.fault.OutsideFault.{OutsideFault}
use Rattle.lls_cli.specs.declared.fault.OutsideFault.TheVariants as outside
use Rattle.lls_answers.specs.declared.status.Status.{Status}
use Rattle.lls_answers.specs.declared.status.Status.TheVariants as statuses
use Rattle.lls_cli.specs.Fault.{fault_line}
use Rattle.lls_outside.specs.Moment.{ShelfMoment, SinkMoment, moment}
use Rattle.lls_outside.specs.Grown.{GrewBy, Writes}
use Rattle.lls_answers.specs.Standing.{WroteFile}
use Rattle.lls_cli.specs.Ends.{FileFailed, End, answered, file_failed, output_failed}
use Rattle.lls_cli.specs.Steps.{IsDelivery, Unwritten}

-- its file stands, and its text was given
pub gave_whole : (answer : Answer) (before after : ShelfMoment) (out_before out_after err : SinkMoment) (result : Result (Unit {0}) Failed) → WroteFile answer.file before after
    → Writes answer.text result out_before out_after → result ≡ Ok tt
    → (end : End) × IsDelivery answer (moment before out_before err) (moment after out_after err) answer.status end
gave_whole answer before after out_before out_after err (Ok done) shelf text is =
    (answered answer, (refl, record { status_is = refl; shelf = shelf; out = text.ok; out_faults = text.no_fault; err = refl }))
gave_whole answer before after out_before out_after err (Err fault) shelf text is = absurd cc

-- its file stands, and the standard output failed
pub gave_part : (answer : Answer) (before after : ShelfMoment) (out_before out_after err_before err_after : SinkMoment) (status : Status) (result : Result (Unit {0}) Failed) (fault : Failed)
    → WroteFile answer.file before after → Writes answer.text result out_before out_after → result ≡ Err fault → status ≡ statuses.Outside
    → GrewBy (fault_line (Outside outside.OutFailed)) err_before err_after
    → (end : End) × IsDelivery answer (moment before out_before err_before) (moment after out_after err_after) status end
gave_part answer before after out_before out_after err_before err_after status (Ok done) fault shelf text is ended line = absurd cc
gave_part answer before after out_before out_after err_before err_after status (Err other) fault shelf text is ended line =
    (output_failed answer, (refl, record { status_is = ended; shelf = shelf; out = text.err; out_counts = text.counts; out_rose = text.failed; err = line }))

-- a file failed
pub failed : (written : Option AnswerFile) (fault : OutsideFault) (before after : ShelfMoment) (out err_before err_after : SinkMoment) (status : Status) → Unwritten written fault before after
    → status ≡ statuses.Outside → GrewBy (fault_line (Outside fault)) err_before err_after
    → FileFailed written (Outside fault) (moment before out err_before) (moment after out err_after) status
failed written fault before after out err_before err_after status file is line = record {
  file = file.file_is.0;
  file_is = file.file_is.1;
  part = file.file_is.2;
  status_is = is;
  shelf_counts = file.counts;
  shelf_rose = file.rose;
  out = refl;
  err = line;
}

-- an answer's file failed
pub failed_file : (answer : Answer) (fault : OutsideFault) (before after : ShelfMoment) (out err_before err_after : SinkMoment) (status : Status) → Unwritten answer.file fault before after
    → status ≡ statuses.Outside → GrewBy (fault_line (Outside fault)) err_before err_after
    → (end : End) × IsDelivery answer (moment before out err_before) (moment after out err_after) status end
failed_file answer fault before after out err_before err_after status file is line =
    (file_failed answer (Outside fault), (refl, failed answer.file fault before after out err_before err_after status file is line))
