-- How a run ends: what relates the outside at its exit to the outside at its entry, by cases.
use Rattle.std.specs.Prelude.{◌≡◌, ◌≤◌, ◌⊎◌, ℕ, true, false, length, take, Option, None, Some, Result, Ok, Err}
use Rattle.std.specs.Io.KnownBytes.{append_known}
use Rattle.std.specs.FinMap as map
use Rattle.std.specs.Option.{option_map}
use Rattle.lls_base.specs.Faults.{Counts, Rose}
use Rattle.lls_base.specs.Shelf.{Files}
use Rattle.lls_words.specs.declared.error.WordsError.{WordsError}
use Rattle.lls_cli.specs.declared.task.Task.{Task}
use Rattle.lls_answers.specs.Questions.{Question}
use Rattle.lls_answers.specs.declared.answer_file.AnswerFile.{AnswerFile}
use Rattle.lls_answers.specs.declared.answer.Answer.{Answer}
use Rattle.lls_cli.specs.declared.fault.Fault.{Fault}
use Rattle.lls_cli.specs.declared.fault.Fault.TheVariants as faults
use Rattle.lls_cli.specs.declared.fault.OutsideFault.TheVariants as outside
use Rattle.lls_answers.specs.declared.status.Status.{Status}
use Rattle.lls_answers.specs.declared.status.Status.TheVariants as statuses
use Rattle.lls_cli.specs.Fault.{fault_line, status_of}
use Rattle.lls_cli.specs.Question.{Asking, come_to, reading, asking_of, Asks}
use Rattle.lls_answers.specs.Answer.{IsAnswer, ahead_of}
use Rattle.lls_outside.specs.Moment.{ShelfMoment, Moment, with_shelf, files_at}
use Rattle.lls_outside.specs.Grown.{GrewBy}
use Rattle.lls_outside.specs.Kept.{KeepsFiles, KeepsInput}
use Rattle.lls_answers.specs.Standing.{WroteFile}

-- a fault that inputs decide: of the outside, the absence of a file alone
abbrev pub IsDecided : Fault → Type 0
IsDecided (faults.Outside outside.NoFile) = Unit {0}
IsDecided (faults.Outside fault) = ⊥
IsDecided (faults.Words error) = ⊥
IsDecided faults.Memory = ⊥
IsDecided fault = Unit {0}

-- the words, the inputs or the demands were refused: nothing is given, and the standard error says why
pub record Refused (fault : Fault) (before after : Moment) (status : Status) : Type 0 where
  pub status_is : status ≡ status_of fault
  pub shelf : KeepsFiles before.shelf after.shelf
  pub shelf_faults : after.shelf.faults ≡ before.shelf.faults
  pub out : after.out ≡ before.out
  pub err : GrewBy (fault_line fault) before.err after.err

-- an allocation was refused, and no call of the shelf failed
pub record LacksMemory (before after : Moment) (status : Status) : Type 0 where
  pub status_is : status ≡ statuses.Memory
  pub shelf : KeepsFiles before.shelf after.shelf
  pub shelf_faults : after.shelf.faults ≡ before.shelf.faults
  pub shelf_counts : Counts before.shelf.faults after.shelf.faults
  pub out : after.out ≡ before.out
  pub err : GrewBy (fault_line faults.Memory) before.err after.err

-- a fault of opening, after which there is no current input, or one of reading, after which there is one
abbrev pub IsOfInput : Fault → ShelfMoment → Type 0
IsOfInput (faults.Outside outside.OpenFailed) after = after.has_input ≡ false
IsOfInput (faults.Outside outside.ReadFailed) after = after.has_input ≡ true
IsOfInput fault after = ⊥

-- an input failed: a call of the shelf did
pub record InputFailed (fault : Fault) (before after : Moment) (status : Status) : Type 0 where
  pub of_input : IsOfInput fault after.shelf
  pub status_is : status ≡ statuses.Outside
  pub shelf : KeepsFiles before.shelf after.shelf
  pub shelf_counts : Counts before.shelf.faults after.shelf.faults
  pub shelf_rose : Rose before.shelf.faults after.shelf.faults
  pub out : after.out ≡ before.out
  pub err : GrewBy (fault_line fault) before.err after.err

-- an answer was given whole: its file, then its text
pub record Delivered (answer : Answer) (before after : Moment) (status : Status) : Type 0 where
  pub status_is : status ≡ answer.status
  pub shelf : WroteFile answer.file before.shelf after.shelf
  pub out : after.out.written ≡ append_known before.out.written answer.text
  pub out_faults : after.out.faults ≡ before.out.faults
  pub err : after.err ≡ before.err

-- what a file stands for that wasn't made, or wasn't written whole: what it did, nothing or first bytes
abbrev pub LeavesPart : Fault → AnswerFile → Option Files → Option Files → Type 0
LeavesPart (faults.Outside outside.CreateFailed) file before after = after ≡ before
LeavesPart (faults.Outside outside.WriteFailed) file before after =
    (n : ℕ) × (n ≤ length file.bytes) × (after ≡ option_map (λ files. map.insert files file.name (take n file.bytes)) before)
LeavesPart fault file before after = ⊥

-- a file failed: a call of the shelf did. The standard output has nothing new
pub record FileFailed (written : Option AnswerFile) (fault : Fault) (before after : Moment) (status : Status) : Type 0 where
  pub file : AnswerFile
  pub file_is : written ≡ Some file
  pub part : LeavesPart fault file (files_at before.shelf) (files_at after.shelf)
  pub status_is : status ≡ statuses.Outside
  pub shelf_counts : Counts before.shelf.faults after.shelf.faults
  pub shelf_rose : Rose before.shelf.faults after.shelf.faults
  pub out : after.out ≡ before.out
  pub err : GrewBy (fault_line fault) before.err after.err

-- the standard output failed: its file stands whole, and the output has first bytes of the text
pub record OutputFailed (answer : Answer) (before after : Moment) (status : Status) : Type 0 where
  pub status_is : status ≡ statuses.Outside
  pub shelf : WroteFile answer.file before.shelf after.shelf
  pub out : (n : ℕ) × (n ≤ length answer.text) × (after.out.written ≡ append_known before.out.written (take n answer.text))
  pub out_counts : Counts before.out.faults after.out.faults
  pub out_rose : Rose before.out.faults after.out.faults
  pub err : GrewBy (fault_line (faults.Outside outside.OutFailed)) before.err after.err

-- the ways to end
pub data End : Type 0 where
  refused : Fault → End
  lacked : End
  input_failed : Fault → End
  ahead_failed : Fault → End
  answered : Answer → End
  file_failed : Answer → Fault → End
  output_failed : Answer → End

-- how a question ends: with a right answer that is given, or that the outside refuses, or for want of memory. A file that is
-- written before the answer is looked for stands by then
abbrev pub IsEndOf : Question → Moment → Moment → Status → End → Type 0
IsEndOf question before after status (answered answer) = IsAnswer question answer × Delivered answer before after status
IsEndOf question before after status (file_failed answer fault) = IsAnswer question answer × FileFailed answer.file fault before after status
IsEndOf question before after status (output_failed answer) = IsAnswer question answer × OutputFailed answer before after status
IsEndOf question before after status lacked = LacksMemory before after status
IsEndOf question before after status (refused fault) = ⊥
IsEndOf question before after status (input_failed fault) = ⊥
IsEndOf question before after status (ahead_failed fault) = ⊥

-- how a question ends behind its file: the file wasn't made or written whole; or there was no memory to make it; or it stands whole,
-- and the question ends from there
abbrev pub IsEndBehind : Option AnswerFile → Question → Moment → Moment → Status → End → Type 0
IsEndBehind None question before after status end = IsEndOf question before after status end
IsEndBehind (Some file) question before after status (ahead_failed fault) = FileFailed (Some file) fault before after status
IsEndBehind (Some file) question before after status lacked =
    LacksMemory before after status ⊎ ((mid : ShelfMoment) × WroteFile (Some file) before.shelf mid × LacksMemory (with_shelf before mid) after status)
IsEndBehind (Some file) question before after status end =
    (mid : ShelfMoment) × WroteFile (Some file) before.shelf mid × IsEndOf question (with_shelf before mid) after status end

abbrev pub Ends : Question → Moment → Moment → Status → End → Type 0
Ends question before after status end = IsEndBehind (ahead_of question) question before after status end

-- a task that reads files
abbrev pub ReadsInputs : Asking Question → Type 0
ReadsInputs (come_to result) = ⊥
ReadsInputs (reading name limit more) = Unit {0}

abbrev pub HasInputs : Task → Type 0
HasInputs task = ReadsInputs (asking_of task)

-- a task that reads none leaves the shelf's input alone
abbrev pub LeavesInput : Asking Question → ShelfMoment → ShelfMoment → Type 0
LeavesInput (come_to result) before after = KeepsInput before after
LeavesInput (reading name limit more) before after = Unit {0}

-- how a task ends
abbrev pub IsEndOfTask : Task → Moment → Moment → Status → End → Type 0
IsEndOfTask task before after status (refused fault) = IsDecided fault × Asks task (files_at before.shelf) (Err fault) × Refused fault before after status
IsEndOfTask task before after status (input_failed fault) = HasInputs task × InputFailed fault before after status
IsEndOfTask task before after status lacked =
    LacksMemory before after status ⊎ ((question : Question) × Asks task (files_at before.shelf) (Ok question) × Ends question before after status lacked)
IsEndOfTask task before after status end =
    (question : Question) × Asks task (files_at before.shelf) (Ok question) × Ends question before after status end

-- how a command line ends
abbrev pub IsEnd : Result Task WordsError → Moment → Moment → Status → End → Type 0
IsEnd (Ok task) before after status end = LeavesInput (asking_of task) before.shelf after.shelf × IsEndOfTask task before after status end
IsEnd (Err error) before after status (refused fault) = (fault ≡ faults.Words error) × (after.shelf ≡ before.shelf) × Refused fault before after status
IsEnd (Err error) before after status lacked = (after.shelf ≡ before.shelf) × LacksMemory before after status
IsEnd (Err error) before after status end = ⊥
