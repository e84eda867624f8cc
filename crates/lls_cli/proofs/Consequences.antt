-- What follows from how a run ends.
use Rattle.std.proofs.Common.{◌≡◌, ◌≢◌, ◌≤◌, ℕ, Option, None, Some, Result, Ok, Err, refl, ap, sym, subst, ◌∙◌, inl, inr, arith, ◌⊎◌}
use Rattle.std.specs.Prelude.{IsErr}
use Rattle.std.specs.Io.KnownBytes.{append_known}
use Rattle.lls_base.specs.Faults.{Rose}
use Rattle.lls_base.specs.Shelf.{Files}
use Rattle.lls_search_file.specs.declared.posed_fault.PosedFault.{PosedFault}
use Rattle.lls_search_file.specs.declared.posed_fault.PosedFault.TheVariants as posed
use Rattle.lls_cnf.specs.declared.dimacs_fault.DimacsFault.{DimacsFault}
use Rattle.lls_cnf.specs.declared.dimacs_fault.DimacsFault.TheVariants as dimacs
use Rattle.lls_search_file.specs.declared.list_fault.ListFault.{ListFault}
use Rattle.lls_search_file.specs.declared.list_fault.ListFault.TheVariants as lists
use Rattle.lls_rle.specs.declared.pictures_fault.PicturesFault.{PicturesFault}
use Rattle.lls_rle.specs.declared.pictures_fault.PicturesFault.TheVariants as pictures
use Rattle.lls_problem.specs.declared.demands.DemandError.{DemandError}
use Rattle.lls_problem.specs.declared.demands.DemandError.TheVariants as demands
use Rattle.lls_words.specs.declared.error.WordsError.{WordsError}
use Rattle.lls_words.specs.declared.error.WordsError.TheVariants as words
use Rattle.lls_cli.specs.declared.task.Task.{Task}
use Rattle.lls_answers.specs.Questions.{Question}
use Rattle.lls_answers.specs.declared.answer_file.AnswerFile.{AnswerFile}
use Rattle.lls_answers.specs.declared.answer.Answer.{Answer}
use Rattle.lls_cli.specs.declared.fault.Fault.{Fault}
use Rattle.lls_cli.specs.declared.fault.Fault.TheVariants as faults
use Rattle.lls_cli.specs.declared.fault.OutsideFault.TheVariants as outside
use Rattle.lls_answers.specs.declared.status.Status.{Status}
use Rattle.lls_answers.specs.declared.status.Status.TheVariants as statuses
use Rattle.lls_cli.specs.Fault.{status_of, words_status, posed_status, demand_status, dimacs_status, list_status, pictures_status}
use Rattle.lls_answers.specs.Answer.{IsAnswer, Holds, ahead_of}
use Rattle.lls_cli.specs.Question.{asking_of, question_of, Asks}
use Rattle.lls_cli.proofs.Asked.{came_to-asked}
use Rattle.lls_outside.specs.Moment.{ShelfMoment, SinkMoment, Moment, files_at}
use Rattle.lls_cli.specs.Ends.{FileFailed, IsDecided, End, refused, lacked, input_failed, ahead_failed, answered, file_failed, output_failed, IsEndBehind, Ends, IsEnd}
use Rattle.lls_answers.specs.Standing.{IsCurrent, KeepsOutput, WroteFile}
use Rattle.lls_cli.proofs.Behind.{answer_of, WroteAhead, ahead_faults, lacking}
use Rattle.lls_cli.specs.Claims.{OfQuestion, IsSilent, IsAnswered, IsFaultStatus, MissesFile, HasCause, NoCallFailed, NothingFailed, CountsNeverFall, SaysAnswer}

words_status-is : (error : WordsError) → IsFaultStatus (words_status error)
words_status-is words.Memory = tt
words_status-is words.NoCommand = tt
words_status-is words.UnknownCommand = tt
words_status-is (words.BadWord place) = tt
words_status-is (words.UnknownOption place) = tt
words_status-is (words.RepeatedOption place) = tt
words_status-is (words.MissingValue place) = tt
words_status-is (words.BadValue place) = tt
words_status-is (words.BadRule place fault) = tt
words_status-is (words.Operands expected found) = tt
words_status-is (words.SameName place) = tt
words_status-is (words.NoPeriod place) = tt
words_status-is (words.RulesCross nine) = tt
words_status-is (words.LooseBackground nine) = tt

-- words are refused with their own status, or for want of memory
words_status-cases : (error : WordsError) → (words_status error ≡ statuses.Words) ⊎ (words_status error ≡ statuses.Memory)
words_status-cases words.Memory = inr refl
words_status-cases words.NoCommand = inl refl
words_status-cases words.UnknownCommand = inl refl
words_status-cases (words.BadWord place) = inl refl
words_status-cases (words.UnknownOption place) = inl refl
words_status-cases (words.RepeatedOption place) = inl refl
words_status-cases (words.MissingValue place) = inl refl
words_status-cases (words.BadValue place) = inl refl
words_status-cases (words.BadRule place fault) = inl refl
words_status-cases (words.Operands expected found) = inl refl
words_status-cases (words.SameName place) = inl refl
words_status-cases (words.NoPeriod place) = inl refl
words_status-cases (words.RulesCross nine) = inl refl
words_status-cases (words.LooseBackground nine) = inl refl

-- the status of a fault of a search file, of demands or of a formula's file
abbrev IsPosedStatus : Status → Type 0
IsPosedStatus statuses.Content = Unit {0}
IsPosedStatus statuses.Limit = Unit {0}
IsPosedStatus status = ⊥

posed_status-is : (fault : PosedFault) → IsPosedStatus (posed_status fault)
posed_status-is posed.Empty = tt
posed_status-is (posed.BadCell line column) = tt
posed_status-is (posed.Ragged line expected found) = tt
posed_status-is (posed.Sizes generation expected found) = tt
posed_status-is (posed.TooWide n) = tt
posed_status-is (posed.TooHigh n) = tt
posed_status-is (posed.TooMany n) = tt
posed_status-is (posed.TooManyCells n) = tt
posed_status-is (posed.NotAscii line column) = tt

demand_status-is : (error : DemandError) → IsPosedStatus (demand_status error)
demand_status-is (demands.NotSquare height width) = tt
demand_status-is (demands.NoGeneration t) = tt
demand_status-is (demands.BoundsCross t) = tt
demand_status-is (demands.PeriodTooLong length) = tt
demand_status-is (demands.Counters n) = tt

dimacs_status-is : (fault : DimacsFault) → IsPosedStatus (dimacs_status fault)
dimacs_status-is dimacs.NoHeader = tt
dimacs_status-is (dimacs.BadHeader line) = tt
dimacs_status-is (dimacs.BadWord line) = tt
dimacs_status-is (dimacs.LiteralRange line number) = tt
dimacs_status-is dimacs.Unended = tt
dimacs_status-is (dimacs.ClauseCount expected found) = tt
dimacs_status-is (dimacs.TooManyVariables n) = tt
dimacs_status-is (dimacs.Percent line) = tt

list_status-is : (fault : ListFault) → IsPosedStatus (list_status fault)
list_status-is (lists.Text fault) = tt
list_status-is (lists.Width line width found) = tt
list_status-is (lists.Height line height found) = tt
list_status-is (lists.NotPlain line cell) = tt
list_status-is (lists.TooMany n) = tt

pictures_status-is : (fault : PicturesFault) → IsPosedStatus (pictures_status fault)
pictures_status-is (pictures.Picture n fault) = tt
pictures_status-is (pictures.TooMany n) = tt

posed_fault : (status : Status) → IsPosedStatus status → IsFaultStatus status
posed_fault statuses.Content is = tt
posed_fault statuses.Memory is = absurd is
posed_fault statuses.Limit is = tt
posed_fault statuses.Done is = absurd is
posed_fault statuses.Refused is = absurd is
posed_fault statuses.Words is = absurd is
posed_fault statuses.Outside is = absurd is
posed_fault statuses.Pattern is = absurd is
posed_fault statuses.NoPattern is = absurd is
posed_fault statuses.Undecided is = absurd is

status_of-is : (fault : Fault) → IsFaultStatus (status_of fault)
status_of-is (faults.Words error) = words_status-is error
status_of-is (faults.Posed fault) = posed_fault (posed_status fault) (posed_status-is fault)
status_of-is (faults.Demands error) = posed_fault (demand_status error) (demand_status-is error)
status_of-is (faults.Dimacs fault) = posed_fault (dimacs_status fault) (dimacs_status-is fault)
status_of-is (faults.NotPlain t y x) = tt
status_of-is (faults.Rle fault) = tt
status_of-is (faults.List fault) = posed_fault (list_status fault) (list_status-is fault)
status_of-is (faults.Pictures fault) = posed_fault (pictures_status fault) (pictures_status-is fault)
status_of-is (faults.Outside fault) = tt
status_of-is (faults.TooLong limit) = tt
status_of-is faults.Memory = tt

-- an answer's status is no fault's
pub no_fault_status : (status : Status) → IsFaultStatus status → IsAnswered status → ⊥
no_fault_status statuses.Done is given = is
no_fault_status statuses.Refused is given = is
no_fault_status statuses.Pattern is given = is
no_fault_status statuses.NoPattern is given = is
no_fault_status statuses.Undecided is given = is
no_fault_status statuses.Words is given = given
no_fault_status statuses.Content is given = given
no_fault_status statuses.Outside is given = given
no_fault_status statuses.Memory is given = given
no_fault_status statuses.Limit is given = given

-- inputs are refused with no status of words
decided_words : (fault : Fault) → IsDecided fault → status_of fault ≡ statuses.Words → ⊥
decided_words (faults.Words error) decided is = decided
decided_words faults.Memory decided is = decided
decided_words (faults.Posed error) decided is = subst IsPosedStatus is (posed_status-is error)
decided_words (faults.Demands error) decided is = subst IsPosedStatus is (demand_status-is error)
decided_words (faults.Dimacs error) decided is = subst IsPosedStatus is (dimacs_status-is error)
decided_words (faults.NotPlain t y x) decided is = cc
decided_words (faults.Rle fault) decided is = cc
decided_words (faults.List fault) decided is = subst IsPosedStatus is (list_status-is fault)
decided_words (faults.Pictures fault) decided is = subst IsPosedStatus is (pictures_status-is fault)
decided_words (faults.Outside fault) decided is = cc
decided_words (faults.TooLong limit) decided is = cc

-- of the outside they are refused for the absence of a file alone
decided_outside : (fault : Fault) → IsDecided fault → status_of fault ≡ statuses.Outside → fault ≡ faults.Outside outside.NoFile
decided_outside (faults.Words error) decided is = absurd decided
decided_outside faults.Memory decided is = absurd decided
decided_outside (faults.Posed error) decided is = absurd (subst IsPosedStatus is (posed_status-is error))
decided_outside (faults.Demands error) decided is = absurd (subst IsPosedStatus is (demand_status-is error))
decided_outside (faults.Dimacs error) decided is = absurd (subst IsPosedStatus is (dimacs_status-is error))
decided_outside (faults.NotPlain t y x) decided is = absurd cc
decided_outside (faults.Rle fault) decided is = absurd cc
decided_outside (faults.List fault) decided is = absurd (subst IsPosedStatus is (list_status-is fault))
decided_outside (faults.Pictures fault) decided is = absurd (subst IsPosedStatus is (pictures_status-is fault))
decided_outside (faults.TooLong limit) decided is = absurd cc
decided_outside (faults.Outside outside.NoFile) decided is = refl
decided_outside (faults.Outside outside.OpenFailed) decided is = absurd decided
decided_outside (faults.Outside outside.ReadFailed) decided is = absurd decided
decided_outside (faults.Outside outside.CreateFailed) decided is = absurd decided
decided_outside (faults.Outside outside.WriteFailed) decided is = absurd decided
decided_outside (faults.Outside outside.OutFailed) decided is = absurd decided

-- a right answer has an answer's status
holds_status : (question : Question) (status : Status) → Holds question status → IsAnswered status
holds_status question statuses.Done holds = tt
holds_status question statuses.Refused holds = tt
holds_status question statuses.Pattern holds = tt
holds_status question statuses.NoPattern holds = tt
holds_status question statuses.Undecided holds = tt
holds_status question statuses.Words holds = absurd holds
holds_status question statuses.Content holds = absurd holds
holds_status question statuses.Outside holds = absurd holds
holds_status question statuses.Memory holds = absurd holds
holds_status question statuses.Limit holds = absurd holds

pub is_answered : (question : Question) (answer : Answer) (status : Status) → IsAnswer question answer → status ≡ answer.status → IsAnswered status
is_answered question answer status right is = subst IsAnswered (sym is) (holds_status question answer.status right.holds)

silent_answered : (status : Status) → IsAnswered status → IsSilent status → ⊥
silent_answered status given silent = no_fault_status status (silent_fault status silent) given where
  silent_fault : (status : Status) → IsSilent status → IsFaultStatus status
  silent_fault statuses.Words silent = tt
  silent_fault statuses.Content silent = tt
  silent_fault statuses.Memory silent = tt
  silent_fault statuses.Limit silent = tt
  silent_fault statuses.Outside silent = absurd silent
  silent_fault statuses.Done silent = absurd silent
  silent_fault statuses.Refused silent = absurd silent
  silent_fault statuses.Pattern silent = absurd silent
  silent_fault statuses.NoPattern silent = absurd silent
  silent_fault statuses.Undecided silent = absurd silent

-- what a file that failed ahead did
pub ahead_part : (question : Question) (before after : Moment) (status : Status) (fault : Fault) → Ends question before after status (ahead_failed fault)
    → FileFailed (ahead_of question) fault before after status
ahead_part question before after status fault ended = part (ahead_of question) ended where
  part : (ahead : Option AnswerFile) → IsEndBehind ahead question before after status (ahead_failed fault) → FileFailed ahead fault before after status
  part None ended = absurd ended
  part (Some file) ended = ended

-- the standard output has nothing new
pub stays_silent : (task : Result Task WordsError) (before after : Moment) (status : Status) → (end : End) × IsEnd task before after status end → IsSilent status → after.out ≡ before.out
stays_silent (Ok task) before after status (refused fault, ended) silent = ended.1.2.out
stays_silent (Ok task) before after status (lacked, ended) silent = (lacking task (files_at before.shelf) before after status ended.1).lacks.out
stays_silent (Ok task) before after status (input_failed fault, ended) silent = ended.1.1.out
stays_silent (Ok task) before after status (ahead_failed fault, ended) silent = (ahead_part ended.1.0 before after status fault ended.1.2).out
stays_silent (Ok task) before after status (answered answer, ended) silent =
    let given = answer_of task (files_at before.shelf) before after status (answered answer) tt ended.1 in
    absurd (silent_answered status (is_answered ended.1.0 answer status given.ended.0 given.ended.1.status_is) silent)
stays_silent (Ok task) before after status (file_failed answer fault, ended) silent = (answer_of task (files_at before.shelf) before after status (file_failed answer fault) tt ended.1).ended.1.out
stays_silent (Ok task) before after status (output_failed answer, ended) silent = absurd (subst IsSilent (answer_of task (files_at before.shelf) before after status (output_failed answer) tt ended.1).ended.1.status_is silent)
stays_silent (Err error) before after status (refused fault, ended) silent = ended.2.out
stays_silent (Err error) before after status (lacked, ended) silent = ended.1.out
stays_silent (Err error) before after status (input_failed fault, ended) silent = absurd ended
stays_silent (Err error) before after status (ahead_failed fault, ended) silent = absurd ended
stays_silent (Err error) before after status (answered answer, ended) silent = absurd ended
stays_silent (Err error) before after status (file_failed answer fault, ended) silent = absurd ended
stays_silent (Err error) before after status (output_failed answer, ended) silent = absurd ended

pub asks-question_of : (task : Task) (files : Files) (question : Result Question Fault) → Asks task (Some files) question → question_of task files ≡ question
asks-question_of task files question asked = came_to-asked files (asking_of task) question asked

misses : (task : Task) (files : Option Files) (fault : Fault) → Asks task files (Err fault) → fault ≡ faults.Outside outside.NoFile → MissesFile (Ok task) files
misses task None fault asked is = tt
misses task (Some files) fault asked is = asks-question_of task files (Err fault) asked ∙ ap Err is

-- a failure of the outside has a cause
pub caused : (task : Result Task WordsError) (before after : Moment) (status : Status) → (end : End) × IsEnd task before after status end → status ≡ statuses.Outside → HasCause task before after
caused (Ok task) before after status (refused fault, ended) is =
    inr (inr (misses task (files_at before.shelf) fault ended.1.1 (decided_outside fault ended.1.0 (sym ended.1.2.status_is ∙ is))))
caused (Ok task) before after status (lacked, ended) is = let memory = (lacking task (files_at before.shelf) before after status ended.1).lacks.status_is in absurd cc
caused (Ok task) before after status (input_failed fault, ended) is = inl ended.1.1.shelf_rose
caused (Ok task) before after status (ahead_failed fault, ended) is = inl (ahead_part ended.1.0 before after status fault ended.1.2).shelf_rose
caused (Ok task) before after status (answered answer, ended) is =
    let given = answer_of task (files_at before.shelf) before after status (answered answer) tt ended.1 in
    absurd (no_fault_status statuses.Outside tt (subst IsAnswered is (is_answered ended.1.0 answer status given.ended.0 given.ended.1.status_is)))
caused (Ok task) before after status (file_failed answer fault, ended) is =
    let given = answer_of task (files_at before.shelf) before after status (file_failed answer fault) tt ended.1 in
    inl (subst (λ n. Rose n after.shelf.faults) (ahead_faults (ahead_of ended.1.0) before.shelf given.mid given.wrote) given.ended.1.shelf_rose)
caused (Ok task) before after status (output_failed answer, ended) is = inr (inl (answer_of task (files_at before.shelf) before after status (output_failed answer) tt ended.1).ended.1.out_rose)
caused (Err error) before after status (refused fault, ended) is =
    let other : words_status error ≡ statuses.Outside = sym (ap status_of ended.0) ∙ (sym ended.2.status_is ∙ is) in
    absurd (elim (words_status-cases error) [ inl w ↦ cc | inr m ↦ cc ])
caused (Err error) before after status (lacked, ended) is = let memory = ended.1.status_is in absurd cc
caused (Err error) before after status (input_failed fault, ended) is = absurd ended
caused (Err error) before after status (ahead_failed fault, ended) is = absurd ended
caused (Err error) before after status (answered answer, ended) is = absurd ended
caused (Err error) before after status (file_failed answer fault, ended) is = absurd ended
caused (Err error) before after status (output_failed answer, ended) is = absurd ended

-- the words are refused where they are no command line
pub words_alone : (task : Result Task WordsError) (before after : Moment) (status : Status) → (end : End) × IsEnd task before after status end → status ≡ statuses.Words → IsErr task
words_alone (Err error) before after status ended is = refl
words_alone (Ok task) before after status (refused fault, ended) is = absurd (decided_words fault ended.1.0 (sym ended.1.2.status_is ∙ is))
words_alone (Ok task) before after status (lacked, ended) is = let memory = (lacking task (files_at before.shelf) before after status ended.1).lacks.status_is in absurd cc
words_alone (Ok task) before after status (input_failed fault, ended) is = let outside_is = ended.1.1.status_is in absurd cc
words_alone (Ok task) before after status (ahead_failed fault, ended) is = let outside_is = (ahead_part ended.1.0 before after status fault ended.1.2).status_is in absurd cc
words_alone (Ok task) before after status (answered answer, ended) is =
    let given = answer_of task (files_at before.shelf) before after status (answered answer) tt ended.1 in
    absurd (no_fault_status statuses.Words tt (subst IsAnswered is (is_answered ended.1.0 answer status given.ended.0 given.ended.1.status_is)))
words_alone (Ok task) before after status (file_failed answer fault, ended) is = let outside_is = (answer_of task (files_at before.shelf) before after status (file_failed answer fault) tt ended.1).ended.1.status_is in absurd cc
words_alone (Ok task) before after status (output_failed answer, ended) is = let outside_is = (answer_of task (files_at before.shelf) before after status (output_failed answer) tt ended.1).ended.1.status_is in absurd cc

pub words_all : (task : Result Task WordsError) (before after : Moment) (status : Status) → (end : End) × IsEnd task before after status end → IsErr task → (status ≡ statuses.Words) ⊎ (status ≡ statuses.Memory)
words_all (Ok task) before after status ended is = absurd cc
words_all (Err error) before after status (refused fault, ended) is =
    elim (words_status-cases error) [
      | inl w ↦ inl (ended.2.status_is ∙ ap status_of ended.0 ∙ w)
      | inr m ↦ inr (ended.2.status_is ∙ ap status_of ended.0 ∙ m)
    ]
words_all (Err error) before after status (lacked, ended) is = inr ended.1.status_is
words_all (Err error) before after status (input_failed fault, ended) is = absurd ended
words_all (Err error) before after status (ahead_failed fault, ended) is = absurd ended
words_all (Err error) before after status (answered answer, ended) is = absurd ended
words_all (Err error) before after status (file_failed answer fault, ended) is = absurd ended
words_all (Err error) before after status (output_failed answer, ended) is = absurd ended

pub of_question : (Fact : Question → Type 0) (task : Task) (files : Option Files) (question : Question) → Asks task files (Ok question) → Fact question → OfQuestion Fact (Ok task) files
of_question Fact task None question asked fact = (question, asked, fact)
of_question Fact task (Some files) question asked fact = (question, asks-question_of task files (Ok question) asked, fact)

pub of_this : (Fact : Question → Type 0) (question : Question) (task : Result Task WordsError) (files : Option Files) → OfQuestion (λ q. question ≡ q) task files → Fact question → OfQuestion Fact task files
of_this Fact question (Ok task) None asked fact = (asked.0, asked.1, subst Fact asked.2 fact)
of_this Fact question (Ok task) (Some files) asked fact = (asked.0, asked.1, subst Fact asked.2 fact)
of_this Fact question (Err error) files asked fact = absurd asked

-- that a command line's task asks this
abbrev pub IsAsked : Result Task WordsError → Option Files → Question → Type 0
IsAsked (Ok task) files question = Asks task files (Ok question)
IsAsked (Err error) files question = ⊥

-- an end at an answer's status is an answer that was given
pub record Meant (task : Result Task WordsError) (before after : Moment) (status : Status) : Type 0 where
  pub question : Question
  pub answer : Answer
  pub status_is : status ≡ answer.status
  pub right : IsAnswer question answer
  pub mid : ShelfMoment
  pub ahead : WroteAhead (ahead_of question) before.shelf mid
  pub wrote : WroteFile answer.file mid after.shelf
  pub said : after.out.written ≡ append_known before.out.written answer.text
  pub nothing_failed : NothingFailed before after
  pub asked : OfQuestion (λ q. question ≡ q) task (files_at before.shelf)
  pub asks : IsAsked task (files_at before.shelf) question

pub meant : (task : Result Task WordsError) (before after : Moment) (status : Status) → (end : End) × IsEnd task before after status end → IsAnswered status → Meant task before after status
meant (Ok task) before after status (answered answer, ended) is =
    let behind_it = answer_of task (files_at before.shelf) before after status (answered answer) tt ended.1 in
    let given = behind_it.ended.1 in
    record {
      question = ended.1.0;
      answer = answer;
      status_is = given.status_is;
      right = behind_it.ended.0;
      mid = behind_it.mid;
      ahead = behind_it.wrote;
      wrote = given.shelf;
      said = given.out;
      nothing_failed = record {
        shelf = given.shelf.faults ∙ ahead_faults (ahead_of ended.1.0) before.shelf behind_it.mid behind_it.wrote;
        out = given.out_faults;
        err = given.err;
      };
      asked = of_question (λ q. ended.1.0 ≡ q) task (files_at before.shelf) ended.1.0 ended.1.1 refl;
      asks = ended.1.1;
    }
meant (Ok task) before after status (refused fault, ended) is = absurd (no_fault_status status (subst IsFaultStatus (sym ended.1.2.status_is) (status_of-is fault)) is)
meant (Ok task) before after status (lacked, ended) is = absurd (no_fault_status status (subst IsFaultStatus (sym (lacking task (files_at before.shelf) before after status ended.1).lacks.status_is) tt) is)
meant (Ok task) before after status (input_failed fault, ended) is = absurd (no_fault_status status (subst IsFaultStatus (sym ended.1.1.status_is) tt) is)
meant (Ok task) before after status (ahead_failed fault, ended) is =
    absurd (no_fault_status status (subst IsFaultStatus (sym (ahead_part ended.1.0 before after status fault ended.1.2).status_is) tt) is)
meant (Ok task) before after status (file_failed answer fault, ended) is = absurd (no_fault_status status (subst IsFaultStatus (sym (answer_of task (files_at before.shelf) before after status (file_failed answer fault) tt ended.1).ended.1.status_is) tt) is)
meant (Ok task) before after status (output_failed answer, ended) is = absurd (no_fault_status status (subst IsFaultStatus (sym (answer_of task (files_at before.shelf) before after status (output_failed answer) tt ended.1).ended.1.status_is) tt) is)
meant (Err error) before after status (refused fault, ended) is = absurd (no_fault_status status (subst IsFaultStatus (sym ended.2.status_is) (status_of-is fault)) is)
meant (Err error) before after status (lacked, ended) is = absurd (no_fault_status status (subst IsFaultStatus (sym ended.1.status_is) tt) is)
meant (Err error) before after status (input_failed fault, ended) is = absurd ended
meant (Err error) before after status (ahead_failed fault, ended) is = absurd ended
meant (Err error) before after status (answered answer, ended) is = absurd ended
meant (Err error) before after status (file_failed answer fault, ended) is = absurd ended
meant (Err error) before after status (output_failed answer, ended) is = absurd ended

-- what the status of an answer says holds of the question
status_means : (Fact : Question → Type 0) (task : Result Task WordsError) (before after : Moment) (status : Status) → (end : End) × IsEnd task before after status end → IsAnswered status
    → ((question : Question) → Holds question status → Fact question) → OfQuestion Fact task (files_at before.shelf)
status_means Fact task before after status ended is means =
    let given = meant task before after status ended is in
    of_this Fact given.question task (files_at before.shelf) given.asked (means given.question (subst (Holds given.question) (sym given.status_is) given.right.holds))

pub holds_at : (wanted : Status) → IsAnswered wanted → (task : Result Task WordsError) (before after : Moment) (status : Status) → (end : End) × IsEnd task before after status end → status ≡ wanted
    → OfQuestion (λ question. Holds question wanted) task (files_at before.shelf)
holds_at wanted given task before after status ended is =
    status_means (λ question. Holds question wanted) task before after status ended (subst IsAnswered (sym is) given) (λ question holds. subst (Holds question) is holds)

same-≤ : (m n : ℕ) → n ≡ m → m ≤ n
same-≤ m n e = omega (arith, e)

same_count : (before after : SinkMoment) → after ≡ before → before.faults ≤ after.faults
same_count before after e = same-≤ before.faults after.faults (ap (λ (s : SinkMoment). s.faults) e)

same_shelf : (before after : ShelfMoment) → after ≡ before → before.faults ≤ after.faults
same_shelf before after e = same-≤ before.faults after.faults (ap (λ (s : ShelfMoment). s.faults) e)

-- the count of the shelf from before a file that was written ahead
from_ahead : (ahead : Option AnswerFile) (before mid : ShelfMoment) (count : ℕ) → WroteAhead ahead before mid → mid.faults ≤ count → before.faults ≤ count
from_ahead ahead before mid count wrote less = omega (arith, ahead_faults ahead before mid wrote, less)

-- no count of faults falls
pub counts_stay : (task : Result Task WordsError) (before after : Moment) (status : Status) → (end : End) × IsEnd task before after status end → CountsNeverFall before after
counts_stay (Ok task) before after status (refused fault, ended) =
    let r = ended.1.2 in record { shelf = same-≤ _ _ r.shelf_faults; out = same_count _ _ r.out; err = r.err.counts.never_falls }
counts_stay (Ok task) before after status (lacked, ended) =
    let behind_it = lacking task (files_at before.shelf) before after status ended.1 in
    let r = behind_it.lacks in
    record { shelf = from_ahead behind_it.ahead before.shelf behind_it.mid after.shelf.faults behind_it.wrote r.shelf_counts.never_falls; out = same_count _ _ r.out; err = r.err.counts.never_falls }
counts_stay (Ok task) before after status (input_failed fault, ended) =
    let r = ended.1.1 in record { shelf = r.shelf_counts.never_falls; out = same_count _ _ r.out; err = r.err.counts.never_falls }
counts_stay (Ok task) before after status (ahead_failed fault, ended) =
    let r = ahead_part ended.1.0 before after status fault ended.1.2 in record { shelf = r.shelf_counts.never_falls; out = same_count _ _ r.out; err = r.err.counts.never_falls }
counts_stay (Ok task) before after status (answered answer, ended) =
    let given = answer_of task (files_at before.shelf) before after status (answered answer) tt ended.1 in
    let r = given.ended.1 in
    record { shelf = from_ahead (ahead_of ended.1.0) before.shelf given.mid after.shelf.faults given.wrote (same-≤ _ _ r.shelf.faults); out = same-≤ _ _ r.out_faults; err = same_count _ _ r.err }
counts_stay (Ok task) before after status (file_failed answer fault, ended) =
    let given = answer_of task (files_at before.shelf) before after status (file_failed answer fault) tt ended.1 in
    let r = given.ended.1 in
    record { shelf = from_ahead (ahead_of ended.1.0) before.shelf given.mid after.shelf.faults given.wrote r.shelf_counts.never_falls; out = same_count _ _ r.out; err = r.err.counts.never_falls }
counts_stay (Ok task) before after status (output_failed answer, ended) =
    let given = answer_of task (files_at before.shelf) before after status (output_failed answer) tt ended.1 in
    let r = given.ended.1 in
    record { shelf = from_ahead (ahead_of ended.1.0) before.shelf given.mid after.shelf.faults given.wrote (same-≤ _ _ r.shelf.faults); out = r.out_counts.never_falls; err = r.err.counts.never_falls }
counts_stay (Err error) before after status (refused fault, ended) =
    let r = ended.2 in record { shelf = same_shelf _ _ ended.1; out = same_count _ _ r.out; err = r.err.counts.never_falls }
counts_stay (Err error) before after status (lacked, ended) =
    let r = ended.1 in record { shelf = same_shelf _ _ ended.0; out = same_count _ _ r.out; err = r.err.counts.never_falls }
counts_stay (Err error) before after status (input_failed fault, ended) = absurd ended
counts_stay (Err error) before after status (ahead_failed fault, ended) = absurd ended
counts_stay (Err error) before after status (answered answer, ended) = absurd ended
counts_stay (Err error) before after status (file_failed answer fault, ended) = absurd ended
counts_stay (Err error) before after status (output_failed answer, ended) = absurd ended

same_sink_faults : (before after : SinkMoment) → after ≡ before → after.faults ≡ before.faults
same_sink_faults before after e = ap (λ (s : SinkMoment). s.faults) e

same_shelf_faults : (before after : ShelfMoment) → after ≡ before → after.faults ≡ before.faults
same_shelf_faults before after e = ap (λ (s : ShelfMoment). s.faults) e

-- what failed is said: at any other status no call of the shelf or of the standard output failed
pub no_call_failed : (task : Result Task WordsError) (before after : Moment) (status : Status) → (end : End) × IsEnd task before after status end → status ≢ statuses.Outside → NoCallFailed before after
no_call_failed (Ok task) before after status (refused fault, ended) other = record { shelf = ended.1.2.shelf_faults; out = same_sink_faults _ _ ended.1.2.out }
no_call_failed (Ok task) before after status (lacked, ended) other =
    let behind_it = lacking task (files_at before.shelf) before after status ended.1 in
    record { shelf = behind_it.lacks.shelf_faults ∙ ahead_faults behind_it.ahead before.shelf behind_it.mid behind_it.wrote; out = same_sink_faults _ _ behind_it.lacks.out }
no_call_failed (Ok task) before after status (input_failed fault, ended) other = absurd (other ended.1.1.status_is)
no_call_failed (Ok task) before after status (ahead_failed fault, ended) other = absurd (other (ahead_part ended.1.0 before after status fault ended.1.2).status_is)
no_call_failed (Ok task) before after status (answered answer, ended) other =
    let given = answer_of task (files_at before.shelf) before after status (answered answer) tt ended.1 in
    record { shelf = given.ended.1.shelf.faults ∙ ahead_faults (ahead_of ended.1.0) before.shelf given.mid given.wrote; out = given.ended.1.out_faults }
no_call_failed (Ok task) before after status (file_failed answer fault, ended) other =
    absurd (other (answer_of task (files_at before.shelf) before after status (file_failed answer fault) tt ended.1).ended.1.status_is)
no_call_failed (Ok task) before after status (output_failed answer, ended) other =
    absurd (other (answer_of task (files_at before.shelf) before after status (output_failed answer) tt ended.1).ended.1.status_is)
no_call_failed (Err error) before after status (refused fault, ended) other = record { shelf = same_shelf_faults _ _ ended.1; out = same_sink_faults _ _ ended.2.out }
no_call_failed (Err error) before after status (lacked, ended) other = record { shelf = same_shelf_faults _ _ ended.0; out = same_sink_faults _ _ ended.1.out }
no_call_failed (Err error) before after status (input_failed fault, ended) other = absurd ended
no_call_failed (Err error) before after status (ahead_failed fault, ended) other = absurd ended
no_call_failed (Err error) before after status (answered answer, ended) other = absurd ended
no_call_failed (Err error) before after status (file_failed answer fault, ended) other = absurd ended
no_call_failed (Err error) before after status (output_failed answer, ended) other = absurd ended

is_current : (written : Option AnswerFile) (before after : ShelfMoment) (file : AnswerFile) → WroteFile written before after → written ≡ Some file → IsCurrent file after
is_current written before after file wrote is = subst (λ (o : Option AnswerFile). KeepsOutput o before after) is wrote.output

-- what stands on the standard output is a right answer's text
pub says_answer : (task : Result Task WordsError) (before after : Moment) (status : Status) → (end : End) × IsEnd task before after status end → IsAnswered status
    → OfQuestion (SaysAnswer before after status) task (files_at before.shelf)
says_answer task before after status ended is =
    let given = meant task before after status ended is in
    of_this (SaysAnswer before after status) given.question task (files_at before.shelf) given.asked (record {
      answer = given.answer;
      right = given.right;
      status_is = given.status_is;
      text = given.said;
      output = λ file named. is_current given.answer.file given.mid after.shelf file given.wrote named;
    })
