-- For private contracts alone: the steps of a run, from reading an input to giving an answer.
use Rattle.std.specs.Prelude.{◌≡◌, ◌⊎◌, true, false, Option, None, Some, Result, Ok, Err, IfOk, IfErr}
use Rattle.lls_base.specs.Faults.{Counts, Rose}
use Rattle.lls_base.specs.declared.reading.ReadError.{ReadError}
use Rattle.lls_base.specs.declared.reading.ReadError.TheVariants as reads
use Rattle.lls_base.specs.declared.writing.FileFault.{FileFault}
use Rattle.lls_base.specs.declared.writing.FileFault.TheVariants as writes
use Rattle.lls_base.specs.Shelf.{Files}
use Rattle.lls_cli.specs.declared.task.Task.{Task}
use Rattle.lls_answers.specs.Questions.{Question}
use Rattle.lls_answers.specs.declared.answer_file.AnswerFile.{AnswerFile}
use Rattle.lls_answers.specs.declared.answer.Answer.{Answer}
use Rattle.lls_cli.specs.declared.fault.Fault.{Fault}
use Rattle.lls_cli.specs.declared.fault.Fault.TheVariants as faults
use Rattle.lls_cli.specs.declared.fault.OutsideFault.{OutsideFault}
use Rattle.lls_cli.specs.declared.fault.OutsideFault.TheVariants as outside
use Rattle.lls_answers.specs.declared.status.Status.{Status}
use Rattle.lls_answers.specs.declared.status.Status.TheVariants as statuses
use Rattle.lls_cli.specs.Fault.{fault_line, status_of}
use Rattle.lls_cli.specs.Question.{Asks}
use Rattle.lls_answers.specs.Answer.{IsAnswer, ahead_of}
use Rattle.lls_outside.specs.Moment.{ShelfMoment, SinkMoment, Moment, files_at}
use Rattle.lls_outside.specs.Grown.{GrewBy}
use Rattle.lls_outside.specs.Kept.{KeepsFiles}
use Rattle.lls_cli.specs.Ends.{LeavesPart, Delivered, FileFailed, OutputFailed, End, refused, lacked, input_failed, ahead_failed, answered, file_failed, output_failed}

-- why reading stopped: since a call of the shelf failed; or for want of memory, or for what the inputs say, and no call failed
abbrev pub Stops : Fault → (Fault → Type 0) → ShelfMoment → ShelfMoment → Type 0
Stops faults.Memory Says before after = after.faults ≡ before.faults
Stops (faults.Outside outside.OpenFailed) Says before after = Rose before.faults after.faults × (after.has_input ≡ false)
Stops (faults.Outside outside.ReadFailed) Says before after = Rose before.faults after.faults × (after.has_input ≡ true)
Stops (faults.Outside outside.CreateFailed) Says before after = ⊥
Stops (faults.Outside outside.WriteFailed) Says before after = ⊥
Stops (faults.Outside outside.OutFailed) Says before after = ⊥
Stops (faults.Words error) Says before after = ⊥
Stops fault Says before after = Says fault × (after.faults ≡ before.faults)

-- what a reading of inputs answered and did to the shelf
pub record Reads {X : Type 0} (Says : Result X Fault → Type 0) (result : Result X Fault) (before after : ShelfMoment) : Type 0 where
  pub kept : KeepsFiles before after
  pub counts : Counts before.faults after.faults
  pub ok : IfOk result (λ value. Says (Ok value) × (after.faults ≡ before.faults))
  pub err : IfErr result (λ fault. Stops fault (λ f. Says (Err f)) before after)

-- what the inputs of a task come to: a right answer to what they ask, before which no file is written, or the first refusal
abbrev pub ComesTo : Task → Option Files → Result Answer Fault → Type 0
ComesTo task files (Ok answer) = (question : Question) × Asks task files (Ok question) × (ahead_of question ≡ None) × IsAnswer question answer
ComesTo task files (Err fault) = Asks task files (Err fault)

-- the fault of an input that wasn't read
abbrev pub input_fault : ReadError → Fault
input_fault reads.OpenFailed = faults.Outside outside.OpenFailed
input_fault reads.ReadFailed = faults.Outside outside.ReadFailed
input_fault (reads.TooLong limit) = faults.TooLong limit
input_fault reads.Memory = faults.Memory
input_fault reads.NoFile = faults.Outside outside.NoFile

-- a fault whose line takes memory: any but a failure of the outside
abbrev pub TakesMemory : Fault → Type 0
TakesMemory (faults.Outside fault) = ⊥
TakesMemory fault = Unit {0}

-- a fault is said on the standard error, or want of memory where its line takes some and there was none
abbrev pub Says : Fault → Status → SinkMoment → SinkMoment → Type 0
Says fault status before after =
    ((status ≡ status_of fault) × GrewBy (fault_line fault) before after)
    ⊎ (TakesMemory fault × (status ≡ statuses.Memory) × GrewBy (fault_line faults.Memory) before after)

abbrev pub file_fault : FileFault → OutsideFault
file_fault writes.CreateFailed = outside.CreateFailed
file_fault writes.WriteFailed = outside.WriteFailed

-- the file of an answer wasn't written
pub record Unwritten (file : Option AnswerFile) (fault : OutsideFault) (before after : ShelfMoment) : Type 0 where
  pub file_is : (named : AnswerFile) × (file ≡ Some named) × LeavesPart (faults.Outside fault) named (files_at before) (files_at after)
  pub counts : Counts before.faults after.faults
  pub rose : Rose before.faults after.faults

-- how an answer was given
abbrev pub IsDelivery : Answer → Moment → Moment → Status → End → Type 0
IsDelivery answer before after status (answered given) = (given ≡ answer) × Delivered given before after status
IsDelivery answer before after status (file_failed given fault) = (given ≡ answer) × FileFailed given.file fault before after status
IsDelivery answer before after status (output_failed given) = (given ≡ answer) × OutputFailed given before after status
IsDelivery answer before after status lacked = ⊥
IsDelivery answer before after status (refused fault) = ⊥
IsDelivery answer before after status (input_failed fault) = ⊥
IsDelivery answer before after status (ahead_failed fault) = ⊥
