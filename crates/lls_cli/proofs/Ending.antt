-- How a run ends by how its steps ended.
use Rattle.std.proofs.Common.{◌≡◌, ◌≢◌, ◌<◌, ◌^◌, Option, None, Some, Result, Ok, Err, refl, ap, sym, subst, ◌∙◌, inl, inr}
use Rattle.std.specs.Option.{option_map}
use Rattle.lls_base.specs.Faults.{Counts, Rose}
use Rattle.lls_base.proofs.Faults.{Counts-refl}
use Rattle.lls_words.specs.declared.error.WordsError.{WordsError}
use Rattle.lls_words.specs.declared.error.WordsError.TheVariants as words
use Rattle.lls_cli.specs.declared.task.Task.{Task}
use Rattle.lls_answers.specs.Questions.{Question}
use Rattle.lls_answers.specs.declared.answer_file.AnswerFile.{AnswerFile}
use Rattle.lls_answers.specs.declared.answer.Answer.{Answer}
use Rattle.lls_cli.specs.declared.fault.Fault.{Fault}
use Rattle.lls_cli.specs.declared.fault.Fault.TheVariants as faults
use Rattle.lls_cli.specs.declared.fault.OutsideFault.{OutsideFault}
use Rattle.lls_cli.specs.declared.fault.OutsideFault.TheVariants as outside
use Rattle.lls_answers.specs.declared.status.Status.{Status}
use Rattle.lls_answers.specs.declared.status.Status.TheVariants as statuses
use Rattle.lls_cli.specs.Fault.{fault_line, words_fault}
use Rattle.lls_answers.specs.Answer.{IsAnswer, ahead_of}
use Rattle.lls_cli.specs.Question.{Asking, come_to, reading, and_ask, subject_asked, asking_of, Asks}
use Rattle.lls_cli.specs.declared.task.Source.{Source}
use Rattle.lls_cli.specs.declared.task.Source.TheVariants as sources
use Rattle.lls_answers.specs.Subject.{Subject}
use Rattle.lls_outside.specs.Moment.{ShelfMoment, SinkMoment, Moment, moment, files_at}
use Rattle.lls_outside.specs.Grown.{GrewBy}
use Rattle.lls_outside.specs.Kept.{KeepsFiles, KeepsInput}
use Rattle.lls_cli.specs.Ends.{LacksMemory, IsOfInput, FileFailed, LeavesPart, LeavesInput, ReadsInputs, HasInputs, IsDecided, End, refused, lacked, input_failed, ahead_failed, answered, file_failed, output_failed, IsEndOf, IsEndBehind, Ends, IsEnd}
use Rattle.lls_answers.specs.Standing.{WroteFile, with_file}
use Rattle.lls_cli.specs.Steps.{Reads, Stops, ComesTo, Says, IsDelivery}

-- a right answer that was delivered
pub delivered : (question : Question) (answer : Answer) (before after : Moment) (status : Status) → IsAnswer question answer
    → (end : End) × IsDelivery answer before after status end → (end : End) × IsEndOf question before after status end
delivered question answer before after status right (answered given, d) = (answered given, (subst (IsAnswer question) (sym d.0) right, d.1))
delivered question answer before after status right (file_failed given fault, d) = (file_failed given fault, (subst (IsAnswer question) (sym d.0) right, d.1))
delivered question answer before after status right (output_failed given, d) = (output_failed given, (subst (IsAnswer question) (sym d.0) right, d.1))
delivered question answer before after status right (lacked, d) = absurd d
delivered question answer before after status right (refused fault, d) = absurd d
delivered question answer before after status right (input_failed fault, d) = absurd d
delivered question answer before after status right (ahead_failed fault, d) = absurd d

pub KeepsFiles-refl : (shelf : ShelfMoment) → KeepsFiles shelf shelf
KeepsFiles-refl shelf = record { files = refl; target = refl; has_output = refl }

pub KeepsInput-refl : (shelf : ShelfMoment) → KeepsInput shelf shelf
KeepsInput-refl shelf = record { rest = refl; has_input = refl }

pub KeepsInput-trans : {before mid after : ShelfMoment} → KeepsInput before mid → KeepsInput mid after → KeepsInput before after
KeepsInput-trans first second = record { rest = second.rest ∙ first.rest; has_input = second.has_input ∙ first.has_input }

-- want of memory, with the shelf and the output as they were
pub lacks : (shelf : ShelfMoment) (out err_before err_after : SinkMoment) (status : Status) → shelf.faults < 2 ^ 64 → status ≡ statuses.Memory
    → GrewBy (fault_line faults.Memory) err_before err_after → LacksMemory (moment shelf out err_before) (moment shelf out err_after) status
lacks shelf out err_before err_after status fits is line =
    record { status_is = is; shelf = KeepsFiles-refl shelf; shelf_faults = refl; shelf_counts = Counts-refl shelf.faults fits; out = refl; err = line }

-- words that are refused, or lack memory
words_refused : (error : WordsError) (shelf : ShelfMoment) (out err_before err_after : SinkMoment) (status : Status) → shelf.faults < 2 ^ 64
    → Says (faults.Words error) status err_before err_after → (end : End) × IsEnd (Err error) (moment shelf out err_before) (moment shelf out err_after) status end
words_refused error shelf out err_before err_after status fits (inl said) =
    (refused (faults.Words error), (refl, refl, record { status_is = said.0; shelf = KeepsFiles-refl shelf; shelf_faults = refl; out = refl; err = said.1 }))
words_refused error shelf out err_before err_after status fits (inr said) = (lacked, (refl, lacks shelf out err_before err_after status fits said.1 said.2))

LeavesInput-refl : (asking : Asking Question) (shelf : ShelfMoment) → LeavesInput asking shelf shelf
LeavesInput-refl (come_to result) shelf = KeepsInput-refl shelf
LeavesInput-refl (reading name limit more) shelf = tt

-- want of memory while the words are read
words_lack : (task : Result Task WordsError) (shelf : ShelfMoment) (out err_before err_after : SinkMoment) (status : Status) → shelf.faults < 2 ^ 64
    → Says faults.Memory status err_before err_after → (end : End) × IsEnd task (moment shelf out err_before) (moment shelf out err_after) status end
words_lack (Ok task) shelf out err_before err_after status fits (inl said) = (lacked, (LeavesInput-refl (asking_of task) shelf, inl (lacks shelf out err_before err_after status fits said.0 said.1)))
words_lack (Ok task) shelf out err_before err_after status fits (inr said) = (lacked, (LeavesInput-refl (asking_of task) shelf, inl (lacks shelf out err_before err_after status fits said.1 said.2)))
words_lack (Err error) shelf out err_before err_after status fits (inl said) = (lacked, (refl, lacks shelf out err_before err_after status fits said.0 said.1))
words_lack (Err error) shelf out err_before err_after status fits (inr said) = (lacked, (refl, lacks shelf out err_before err_after status fits said.1 said.2))

-- a task whose reading stopped for want of memory, or where the line of a fault lacked it
stopped_lacking : (task : Task) (before after : ShelfMoment) (out err_before err_after : SinkMoment) (status : Status)
    → LeavesInput (asking_of task) before after → KeepsFiles before after → Counts before.faults after.faults → after.faults ≡ before.faults → status ≡ statuses.Memory
    → GrewBy (fault_line faults.Memory) err_before err_after
    → (end : End) × IsEnd (Ok task) (moment before out err_before) (moment after out err_after) status end
stopped_lacking task before after out err_before err_after status leaves kept counts same is line =
    (lacked, (leaves, inl (record { status_is = is; shelf = kept; shelf_faults = same; shelf_counts = counts; out = refl; err = line })))

-- a task whose inputs were refused
stopped_refused : (task : Task) (fault : Fault) (before after : ShelfMoment) (out err_before err_after : SinkMoment) (status : Status)
    → IsDecided fault → LeavesInput (asking_of task) before after → KeepsFiles before after → Counts before.faults after.faults
    → Asks task (files_at before) (Err fault) × (after.faults ≡ before.faults) → Says fault status err_before err_after
    → (end : End) × IsEnd (Ok task) (moment before out err_before) (moment after out err_after) status end
stopped_refused task fault before after out err_before err_after status decided leaves kept counts asked (inl said) =
    (refused fault, (leaves, (decided, asked.0, record { status_is = said.0; shelf = kept; shelf_faults = asked.1; out = refl; err = said.1 })))
stopped_refused task fault before after out err_before err_after status decided leaves kept counts asked (inr said) =
    stopped_lacking task before after out err_before err_after status leaves kept counts asked.1 said.1 said.2

-- a task whose input failed
stopped_failing : (task : Task) (fault : OutsideFault) (before after : ShelfMoment) (out err_before err_after : SinkMoment) (status : Status)
    → LeavesInput (asking_of task) before after → KeepsFiles before after → Counts before.faults after.faults → HasInputs task → IsOfInput (faults.Outside fault) after
    → Rose before.faults after.faults → Says (faults.Outside fault) status err_before err_after
    → (end : End) × IsEnd (Ok task) (moment before out err_before) (moment after out err_after) status end
stopped_failing task fault before after out err_before err_after status leaves kept counts inputs of_input rose (inl said) = (
  input_failed (faults.Outside fault),
  (
    leaves,
    (
      inputs,
      record {
        of_input = of_input;
        status_is = said.0;
        shelf = kept;
        shelf_counts = counts;
        shelf_rose = rose;
        out = refl;
        err = said.1;
      },
    ),
  ),
)
stopped_failing task fault before after out err_before err_after status leaves kept counts inputs of_input rose (inr said) = absurd said.0

-- a task whose reading stopped, and the fault was said
pub stopped : (task : Task) (fault : Fault) (before after : ShelfMoment) (out err_before err_after : SinkMoment) (status : Status)
    → LeavesInput (asking_of task) before after → KeepsFiles before after → Counts before.faults after.faults → HasInputs task
    → Stops fault (λ f. Asks task (files_at before) (Err f)) before after → Says fault status err_before err_after
    → (end : End) × IsEnd (Ok task) (moment before out err_before) (moment after out err_after) status end
stopped task faults.Memory before after out err_before err_after status leaves kept counts inputs stops (inl said) =
    stopped_lacking task before after out err_before err_after status leaves kept counts stops said.0 said.1
stopped task faults.Memory before after out err_before err_after status leaves kept counts inputs stops (inr said) =
    stopped_lacking task before after out err_before err_after status leaves kept counts stops said.1 said.2
stopped task (faults.Outside outside.OpenFailed) before after out err_before err_after status leaves kept counts inputs stops said =
    stopped_failing task outside.OpenFailed before after out err_before err_after status leaves kept counts inputs stops.1 stops.0 said
stopped task (faults.Outside outside.ReadFailed) before after out err_before err_after status leaves kept counts inputs stops said =
    stopped_failing task outside.ReadFailed before after out err_before err_after status leaves kept counts inputs stops.1 stops.0 said
stopped task (faults.Outside outside.NoFile) before after out err_before err_after status leaves kept counts inputs stops said =
    stopped_refused task (faults.Outside outside.NoFile) before after out err_before err_after status tt leaves kept counts stops said
stopped task (faults.Outside outside.CreateFailed) before after out err_before err_after status leaves kept counts inputs stops said = absurd stops
stopped task (faults.Outside outside.WriteFailed) before after out err_before err_after status leaves kept counts inputs stops said = absurd stops
stopped task (faults.Outside outside.OutFailed) before after out err_before err_after status leaves kept counts inputs stops said = absurd stops
stopped task (faults.Words error) before after out err_before err_after status leaves kept counts inputs stops said = absurd stops
stopped task (faults.Posed error) before after out err_before err_after status leaves kept counts inputs stops said =
    stopped_refused task (faults.Posed error) before after out err_before err_after status tt leaves kept counts stops said
stopped task (faults.Demands error) before after out err_before err_after status leaves kept counts inputs stops said =
    stopped_refused task (faults.Demands error) before after out err_before err_after status tt leaves kept counts stops said
stopped task (faults.Dimacs error) before after out err_before err_after status leaves kept counts inputs stops said =
    stopped_refused task (faults.Dimacs error) before after out err_before err_after status tt leaves kept counts stops said
stopped task (faults.NotPlain t y x) before after out err_before err_after status leaves kept counts inputs stops said =
    stopped_refused task (faults.NotPlain t y x) before after out err_before err_after status tt leaves kept counts stops said
stopped task (faults.Rle error) before after out err_before err_after status leaves kept counts inputs stops said =
    stopped_refused task (faults.Rle error) before after out err_before err_after status tt leaves kept counts stops said
stopped task (faults.List error) before after out err_before err_after status leaves kept counts inputs stops said =
    stopped_refused task (faults.List error) before after out err_before err_after status tt leaves kept counts stops said
stopped task (faults.Pictures error) before after out err_before err_after status leaves kept counts inputs stops said =
    stopped_refused task (faults.Pictures error) before after out err_before err_after status tt leaves kept counts stops said
stopped task (faults.TooLong limit) before after out err_before err_after status leaves kept counts inputs stops said =
    stopped_refused task (faults.TooLong limit) before after out err_before err_after status tt leaves kept counts stops said

-- words that are no command line, or lack memory
pub words_ended : (error : WordsError) (task : Result Task WordsError) (shelf : ShelfMoment) (out err_before err_after : SinkMoment) (status : Status) → shelf.faults < 2 ^ 64
    → (error ≢ words.Memory → task ≡ Err error) → Says (words_fault error) status err_before err_after
    → (end : End) × IsEnd task (moment shelf out err_before) (moment shelf out err_after) status end
words_ended words.Memory task shelf out err_before err_after status fits read said = words_lack task shelf out err_before err_after status fits said
words_ended words.NoCommand task shelf out err_before err_after status fits read said = rw (read (λ is. cc)) (words_refused words.NoCommand shelf out err_before err_after status fits said)
words_ended words.UnknownCommand task shelf out err_before err_after status fits read said = rw (read (λ is. cc)) (words_refused words.UnknownCommand shelf out err_before err_after status fits said)
words_ended (words.BadWord place) task shelf out err_before err_after status fits read said = rw (read (λ is. cc)) (words_refused (words.BadWord place) shelf out err_before err_after status fits said)
words_ended (words.UnknownOption place) task shelf out err_before err_after status fits read said = rw (read (λ is. cc)) (words_refused (words.UnknownOption place) shelf out err_before err_after status fits said)
words_ended (words.RepeatedOption place) task shelf out err_before err_after status fits read said = rw (read (λ is. cc)) (words_refused (words.RepeatedOption place) shelf out err_before err_after status fits said)
words_ended (words.MissingValue place) task shelf out err_before err_after status fits read said = rw (read (λ is. cc)) (words_refused (words.MissingValue place) shelf out err_before err_after status fits said)
words_ended (words.BadValue place) task shelf out err_before err_after status fits read said = rw (read (λ is. cc)) (words_refused (words.BadValue place) shelf out err_before err_after status fits said)
words_ended (words.BadRule place fault) task shelf out err_before err_after status fits read said = rw (read (λ is. cc)) (words_refused (words.BadRule place fault) shelf out err_before err_after status fits said)
words_ended (words.Operands expected found) task shelf out err_before err_after status fits read said = rw (read (λ is. cc)) (words_refused (words.Operands expected found) shelf out err_before err_after status fits said)
words_ended (words.SameName place) task shelf out err_before err_after status fits read said = rw (read (λ is. cc)) (words_refused (words.SameName place) shelf out err_before err_after status fits said)
words_ended (words.NoPeriod place) task shelf out err_before err_after status fits read said = rw (read (λ is. cc)) (words_refused (words.NoPeriod place) shelf out err_before err_after status fits said)
words_ended (words.RulesCross nine) task shelf out err_before err_after status fits read said = rw (read (λ is. cc)) (words_refused (words.RulesCross nine) shelf out err_before err_after status fits said)
words_ended (words.LooseBackground nine) task shelf out err_before err_after status fits read said = rw (read (λ is. cc)) (words_refused (words.LooseBackground nine) shelf out err_before err_after status fits said)

-- the shelf's input is left alone twice
leaves_both : (asking : Asking Question) (before mid after : ShelfMoment) → LeavesInput asking before mid → LeavesInput asking mid after → LeavesInput asking before after
leaves_both (come_to result) before mid after first second = KeepsInput-trans first second
leaves_both (reading name limit more) before mid after first second = tt

WroteFile-after : (file : Option AnswerFile) (before mid after : ShelfMoment) → KeepsFiles before mid → mid.faults ≡ before.faults → WroteFile file mid after → WroteFile file before after
WroteFile-after None before mid after kept same wrote = record {
  files = wrote.files ∙ ap (option_map (with_file None)) kept.files;
  output = (wrote.output.0 ∙ kept.target, wrote.output.1 ∙ kept.has_output);
  faults = wrote.faults ∙ same;
}
WroteFile-after (Some file) before mid after kept same wrote = record {
  files = wrote.files ∙ ap (option_map (with_file (Some file))) kept.files;
  output = wrote.output;
  faults = wrote.faults ∙ same;
}

FileFailed-after : (file : Option AnswerFile) (fault : Fault) (before mid after : ShelfMoment) (out_before out_after err_before err_after : SinkMoment) (status : Status)
    → KeepsFiles before mid → mid.faults ≡ before.faults → FileFailed file fault (moment mid out_before err_before) (moment after out_after err_after) status
    → FileFailed file fault (moment before out_before err_before) (moment after out_after err_after) status
FileFailed-after file fault before mid after out_before out_after err_before err_after status kept same failed = record {
  file = failed.file;
  file_is = failed.file_is;
  part = subst (λ files. LeavesPart fault failed.file files (files_at after)) kept.files failed.part;
  status_is = failed.status_is;
  shelf_counts = subst (λ n. Counts n after.faults) same failed.shelf_counts;
  shelf_rose = subst (λ n. Rose n after.faults) same failed.shelf_rose;
  out = failed.out;
  err = failed.err;
}

LacksMemory-after : (before mid after : ShelfMoment) (out_before out_after err_before err_after : SinkMoment) (status : Status)
    → KeepsFiles before mid → mid.faults ≡ before.faults → LacksMemory (moment mid out_before err_before) (moment after out_after err_after) status
    → LacksMemory (moment before out_before err_before) (moment after out_after err_after) status
LacksMemory-after before mid after out_before out_after err_before err_after status kept same lacking = record {
  status_is = lacking.status_is;
  shelf = record { files = lacking.shelf.files ∙ kept.files; target = lacking.shelf.target ∙ kept.target; has_output = lacking.shelf.has_output ∙ kept.has_output };
  shelf_faults = lacking.shelf_faults ∙ same;
  shelf_counts = subst (λ n. Counts n after.faults) same lacking.shelf_counts;
  out = lacking.out;
  err = lacking.err;
}

-- a question's end, from before the inputs were read
IsEndOf-after : (question : Question) (before mid after : ShelfMoment) (out_before out_after err_before err_after : SinkMoment) (status : Status) (end : End)
    → KeepsFiles before mid → mid.faults ≡ before.faults → IsEndOf question (moment mid out_before err_before) (moment after out_after err_after) status end
    → IsEndOf question (moment before out_before err_before) (moment after out_after err_after) status end
IsEndOf-after question before mid after out_before out_after err_before err_after status (answered answer) kept same ended = (
  ended.0,
  record {
    status_is = ended.1.status_is;
    shelf = WroteFile-after answer.file before mid after kept same ended.1.shelf;
    out = ended.1.out;
    out_faults = ended.1.out_faults;
    err = ended.1.err;
  },
)
IsEndOf-after question before mid after out_before out_after err_before err_after status (file_failed answer fault) kept same ended =
    (ended.0, FileFailed-after answer.file fault before mid after out_before out_after err_before err_after status kept same ended.1)
IsEndOf-after question before mid after out_before out_after err_before err_after status (output_failed answer) kept same ended = (
  ended.0,
  record {
    status_is = ended.1.status_is;
    shelf = WroteFile-after answer.file before mid after kept same ended.1.shelf;
    out = ended.1.out;
    out_counts = ended.1.out_counts;
    out_rose = ended.1.out_rose;
    err = ended.1.err;
  },
)
IsEndOf-after question before mid after out_before out_after err_before err_after status lacked kept same ended =
    LacksMemory-after before mid after out_before out_after err_before err_after status kept same ended
IsEndOf-after question before mid after out_before out_after err_before err_after status (refused fault) kept same ended = absurd ended
IsEndOf-after question before mid after out_before out_after err_before err_after status (input_failed fault) kept same ended = absurd ended
IsEndOf-after question before mid after out_before out_after err_before err_after status (ahead_failed fault) kept same ended = absurd ended

IsEndBehind-after : (ahead : Option AnswerFile) (question : Question) (before mid after : ShelfMoment) (out_before out_after err_before err_after : SinkMoment) (status : Status) (end : End)
    → KeepsFiles before mid → mid.faults ≡ before.faults → IsEndBehind ahead question (moment mid out_before err_before) (moment after out_after err_after) status end
    → IsEndBehind ahead question (moment before out_before err_before) (moment after out_after err_after) status end
IsEndBehind-after None question before mid after out_before out_after err_before err_after status end kept same ended =
    IsEndOf-after question before mid after out_before out_after err_before err_after status end kept same ended
IsEndBehind-after (Some file) question before mid after out_before out_after err_before err_after status (ahead_failed fault) kept same ended =
    FileFailed-after (Some file) fault before mid after out_before out_after err_before err_after status kept same ended
IsEndBehind-after (Some file) question before mid after out_before out_after err_before err_after status lacked kept same (inl lacking) =
    inl (LacksMemory-after before mid after out_before out_after err_before err_after status kept same lacking)
IsEndBehind-after (Some file) question before mid after out_before out_after err_before err_after status lacked kept same (inr behind) =
    inr (behind.0, WroteFile-after (Some file) before mid behind.0 kept same behind.1, behind.2)
IsEndBehind-after (Some file) question before mid after out_before out_after err_before err_after status (answered answer) kept same ended =
    (ended.0, WroteFile-after (Some file) before mid ended.0 kept same ended.1, ended.2)
IsEndBehind-after (Some file) question before mid after out_before out_after err_before err_after status (file_failed answer fault) kept same ended =
    (ended.0, WroteFile-after (Some file) before mid ended.0 kept same ended.1, ended.2)
IsEndBehind-after (Some file) question before mid after out_before out_after err_before err_after status (output_failed answer) kept same ended =
    (ended.0, WroteFile-after (Some file) before mid ended.0 kept same ended.1, ended.2)
IsEndBehind-after (Some file) question before mid after out_before out_after err_before err_after status (refused fault) kept same ended = absurd ended.2
IsEndBehind-after (Some file) question before mid after out_before out_after err_before err_after status (input_failed fault) kept same ended = absurd ended.2

-- no question ends with a refusal of words or inputs
refuses_nothing : (ahead : Option AnswerFile) (question : Question) (before after : Moment) (status : Status) (fault : Fault) → IsEndBehind ahead question before after status (refused fault) → ⊥
refuses_nothing None question before after status fault ended = ended
refuses_nothing (Some file) question before after status fault ended = ended.2

reads_nothing : (ahead : Option AnswerFile) (question : Question) (before after : Moment) (status : Status) (fault : Fault) → IsEndBehind ahead question before after status (input_failed fault) → ⊥
reads_nothing None question before after status fault ended = ended
reads_nothing (Some file) question before after status fault ended = ended.2

-- the end of a question that was asked is that of its task
of_task : (task : Task) (question : Question) (before after : Moment) (status : Status) (end : End) → LeavesInput (asking_of task) before.shelf after.shelf → Asks task (files_at before.shelf) (Ok question)
    → Ends question before after status end → IsEnd (Ok task) before after status end
of_task task question before after status (answered answer) leaves asked ended = (leaves, (question, asked, ended))
of_task task question before after status (file_failed answer fault) leaves asked ended = (leaves, (question, asked, ended))
of_task task question before after status (output_failed answer) leaves asked ended = (leaves, (question, asked, ended))
of_task task question before after status (ahead_failed fault) leaves asked ended = (leaves, (question, asked, ended))
of_task task question before after status lacked leaves asked ended = (leaves, inr (question, asked, ended))
of_task task question before after status (refused fault) leaves asked ended = absurd (refuses_nothing (ahead_of question) question before after status fault ended)
of_task task question before after status (input_failed fault) leaves asked ended = absurd (reads_nothing (ahead_of question) question before after status fault ended)

-- a question's end is that of the task that asked it
pub task_ended : (task : Task) (question : Question) (before mid after : ShelfMoment) (out_before out_after err_before err_after : SinkMoment) (status : Status)
    → Asks task (files_at before) (Ok question) → LeavesInput (asking_of task) before mid → LeavesInput (asking_of task) mid after → KeepsFiles before mid → mid.faults ≡ before.faults
    → (end : End) × Ends question (moment mid out_before err_before) (moment after out_after err_after) status end
    → (end : End) × IsEnd (Ok task) (moment before out_before err_before) (moment after out_after err_after) status end
task_ended task question before mid after out_before out_after err_before err_after status asked leaves more kept same (end, ended) = (
  end,
  of_task task question (moment before out_before err_before) (moment after out_after err_after) status end
      (leaves_both (asking_of task) before mid after leaves more) asked
      (IsEndBehind-after (ahead_of question) question before mid after out_before out_after err_before err_after status end kept same ended),
)

-- a question's end, from before its file was written
pub behind_file : (file : AnswerFile) (question : Question) (before mid after : ShelfMoment) (out_before out_after err_before err_after : SinkMoment) (status : Status) → WroteFile (Some file) before mid
    → (end : End) × IsEndOf question (moment mid out_before err_before) (moment after out_after err_after) status end
    → (end : End) × IsEndBehind (Some file) question (moment before out_before err_before) (moment after out_after err_after) status end
behind_file file question before mid after out_before out_after err_before err_after status wrote (answered answer, ended) = (answered answer, (mid, wrote, ended))
behind_file file question before mid after out_before out_after err_before err_after status wrote (file_failed answer fault, ended) = (file_failed answer fault, (mid, wrote, ended))
behind_file file question before mid after out_before out_after err_before err_after status wrote (output_failed answer, ended) = (output_failed answer, (mid, wrote, ended))
behind_file file question before mid after out_before out_after err_before err_after status wrote (lacked, ended) = (lacked, inr (mid, wrote, ended))
behind_file file question before mid after out_before out_after err_before err_after status wrote (refused fault, ended) = absurd ended
behind_file file question before mid after out_before out_after err_before err_after status wrote (input_failed fault, ended) = absurd ended
behind_file file question before mid after out_before out_after err_before err_after status wrote (ahead_failed fault, ended) = absurd ended

-- what a check or a search is about is read
pub reads_subject : (source : Source) (next : Subject → Asking Question) → ReadsInputs (and_ask (subject_asked source) next)
reads_subject (sources.Problem source formulation) next = tt
reads_subject (sources.Rules source high form) next = tt
reads_subject (sources.Formula name) next = tt

pub leaves_input : (asking : Asking Question) (before after : ShelfMoment) → ReadsInputs asking → LeavesInput asking before after
leaves_input (come_to result) before after inputs = absurd inputs
leaves_input (reading name limit more) before after inputs = tt

-- the inputs of a task came to an answer, and it was given
pub read_answered : (task : Task) (answer : Answer) (before mid after : ShelfMoment) (out_before out_after err_before err_after : SinkMoment) (status : Status) → HasInputs task
    → Reads (ComesTo task (files_at before)) (Ok answer) before mid
    → ((question : Question) → IsAnswer question answer → (end : End) × IsEndOf question (moment mid out_before err_before) (moment after out_after err_after) status end)
    → (end : End) × IsEnd (Ok task) (moment before out_before err_before) (moment after out_after err_after) status end
read_answered task answer before mid after out_before out_after err_before err_after status inputs read ended =
    let (question, asked, none, right) = read.ok.0 in
    task_ended task question before mid after out_before out_after err_before err_after status asked (leaves_input (asking_of task) before mid inputs) (leaves_input (asking_of task) mid after inputs) read.kept read.ok.1
    (subst (λ ahead. (end : End) × IsEndBehind ahead question (moment mid out_before err_before) (moment after out_after err_after) status end) (sym none) (ended question right))

-- or to a fault, and it was said
pub read_stopped : (task : Task) (fault : Fault) (before after : ShelfMoment) (out err_before err_after : SinkMoment) (status : Status) → HasInputs task
    → Reads (ComesTo task (files_at before)) (Err fault) before after → Says fault status err_before err_after
    → (end : End) × IsEnd (Ok task) (moment before out err_before) (moment after out err_after) status end
read_stopped task fault before after out err_before err_after status inputs read said =
    stopped task fault before after out err_before err_after status (leaves_input (asking_of task) before after inputs) read.kept read.counts inputs read.err said
