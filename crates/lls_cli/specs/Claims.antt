-- What a run's end says in plain sentences. Each follows from how the run ends.
use Rattle.std.specs.Prelude.{◌≡◌, ◌≢◌, ◌≤◌, ◌⊎◌, ℕ, List, [], ◌∷◌, ◌++◌, length, take, All, Option, None, Some, Result, Ok, Err}
use Rattle.std.specs.Io.KnownBytes.{append_known}
use Rattle.std.specs.FinMap as map
use Rattle.std.specs.Option.{option_map}
use Rattle.lls_base.specs.Faults.{Rose}
use Rattle.lls_base.specs.Shelf.{Files}
use Rattle.lls_words.specs.declared.error.WordsError.{WordsError}
use Rattle.lls_problem.specs.declared.bounds.Bound.{Bound}
use Rattle.lls_problem.specs.declared.demands.Demands.{Demands}
use Rattle.lls_grid.specs.History.{History}
use Rattle.lls_least.specs.Extremal.{beyond_it}
use Rattle.lls_words.specs.declared.problem_source.ProblemSource.{ProblemSource}
use Rattle.lls_cli.specs.declared.task.Source.TheVariants as sources
use Rattle.lls_cli.specs.declared.task.Task.{Task}
use Rattle.lls_cli.specs.declared.task.Task.TheVariants as tasks
use Rattle.lls_answers.specs.Questions.{Question}
use Rattle.lls_answers.specs.Questions as questions
use Rattle.lls_answers.specs.declared.answer_file.AnswerFile.{AnswerFile}
use Rattle.lls_answers.specs.declared.answer.Answer.{Answer}
use Rattle.lls_cli.specs.declared.fault.Fault.{Fault}
use Rattle.lls_cli.specs.declared.fault.Fault.TheVariants as faults
use Rattle.lls_cli.specs.declared.fault.OutsideFault.TheVariants as outside
use Rattle.lls_answers.specs.declared.asked.Asked.{Asked}
use Rattle.lls_answers.specs.declared.status.Status.{Status}
use Rattle.lls_answers.specs.declared.status.Status.TheVariants as statuses
use Rattle.lls_answers.specs.Subject.{Subject}
use Rattle.lls_answers.specs.Subject as subjects
use Rattle.lls_cli.specs.Question.{proof_limit, question_of, Asks}
use Rattle.lls_cli.specs.Fault.{fault_line, status_of}
use Rattle.lls_outside.specs.Grown.{GrewBy}
use Rattle.lls_answers.specs.Standing.{IsCurrent, with_file}
use Rattle.lls_answers.specs.Extremal.{asked_bounded, IsOfExtreme}
use Rattle.lls_answers.specs.Meaning.{certificate_at, log_at, search_file_at}
use Rattle.lls_answers.specs.Trimming.{trimmed_at}
use Rattle.lls_answers.specs.Answer.{Holds, IsAnswer, Leaves, YesHolds, ahead_of}
use Rattle.lls_outside.specs.Moment.{SinkMoment, Moment, files_at}

-- a fact of the question that words and files ask. Where the shelf doesn't tell its files, it is a question that the words ask of
-- some bytes for each input, which the system gave
abbrev pub OfQuestion : (Question → Type 0) → Result Task WordsError → Option Files → Type 0
OfQuestion Fact (Ok task) (Some files) = (question : Question) × (question_of task files ≡ Ok question) × Fact question
OfQuestion Fact (Ok task) None = (question : Question) × Asks task None (Ok question) × Fact question
OfQuestion Fact (Err error) files = ⊥

-- the statuses at which the standard output has nothing new
abbrev pub IsSilent : Status → Type 0
IsSilent statuses.Words = Unit {0}
IsSilent statuses.Content = Unit {0}
IsSilent statuses.Memory = Unit {0}
IsSilent statuses.Limit = Unit {0}
IsSilent status = ⊥

-- the statuses of answers
abbrev pub IsAnswered : Status → Type 0
IsAnswered statuses.Done = Unit {0}
IsAnswered statuses.Refused = Unit {0}
IsAnswered statuses.Pattern = Unit {0}
IsAnswered statuses.NoPattern = Unit {0}
IsAnswered statuses.Undecided = Unit {0}
IsAnswered status = ⊥

-- the statuses of faults
abbrev pub IsFaultStatus : Status → Type 0
IsFaultStatus statuses.Words = Unit {0}
IsFaultStatus statuses.Content = Unit {0}
IsFaultStatus statuses.Outside = Unit {0}
IsFaultStatus statuses.Memory = Unit {0}
IsFaultStatus statuses.Limit = Unit {0}
IsFaultStatus status = ⊥

-- the standard output grew by the text of a right answer of this status, and the answer's file, if it has one, is the current output
pub record SaysAnswer (before after : Moment) (status : Status) (question : Question) : Type 0 where
  pub answer : Answer
  pub right : IsAnswer question answer
  pub status_is : status ≡ answer.status
  pub text : after.out.written ≡ append_known before.out.written answer.text
  pub output : (file : AnswerFile) → answer.file ≡ Some file → IsCurrent file after.shelf

-- the standard error says why: it grew by the line of a fault of this status, or by first bytes of it where it failed itself
abbrev pub SaysWhy : Status → SinkMoment → SinkMoment → Type 0
SaysWhy status before after = (fault : Fault) × (status ≡ status_of fault) × GrewBy (fault_line fault) before after

-- the files that a task may have changed, by the status at which it ends
abbrev pub outputs_of : Task → Status → List (List ℕ)
outputs_of (tasks.Search source effort further) status = log_at status effort.proof
outputs_of (tasks.Make seed size file effort) status = search_file_at status file ++ log_at status effort.proof
outputs_of (tasks.Extremal extreme source formulation effort further) status = certificate_at status effort.proof
outputs_of (tasks.Trim formula proof output) status = trimmed_at status output
outputs_of task status = []

abbrev pub outputs_of_words : Result Task WordsError → Status → List (List ℕ)
outputs_of_words (Ok task) status = outputs_of task status
outputs_of_words (Err error) status = []

-- a task that reads nothing and writes nothing: the printing of a rule
abbrev pub ReadsAndWritesNothing : Result Task WordsError → Type 0
ReadsAndWritesNothing (Ok (tasks.Print rule)) = Unit {0}
ReadsAndWritesNothing task = ⊥

-- no file changed, but perhaps these
abbrev pub ChangesOnly : List (List ℕ) → Option Files → Option Files → Type 0
ChangesOnly [] before after = after ≡ before
ChangesOnly (name ∷ names) before after =
    (other : List ℕ) → All (λ changed. other ≢ changed) (name ∷ names) → option_map (λ files. map.get files other) after ≡ option_map (λ files. map.get files other) before

-- a file that wasn't written, or not whole: no file changed, or its name stands for first bytes of its text, perhaps none
abbrev pub IsBegun : Option AnswerFile → Option Files → Option Files → Type 0
IsBegun None before after = after ≡ before
IsBegun (Some file) before after =
    (after ≡ before) ⊎ ((n : ℕ) × (after ≡ option_map (λ files. map.insert files file.name (take n file.bytes)) before))

-- the file that a question writes ahead was begun, or it stands whole and the file of a right answer was begun
abbrev pub IsBegunFor : Option Files → Option Files → Question → Type 0
IsBegunFor before after question =
    IsBegun (ahead_of question) before after
    ⊎ ((answer : Answer) × IsAnswer question answer × IsBegun answer.file (option_map (with_file (ahead_of question)) before) after)

-- what a failure of the outside leaves: the files as they were, or those of a question that is asked, begun
abbrev pub LeavesBegun : Result Task WordsError → Option Files → Option Files → Type 0
LeavesBegun task before after = (after ≡ before) ⊎ OfQuestion (IsBegunFor before after) task before

-- what a search leaves in its file where it found that there is nothing, where it is undecided and where it found something; and a trim
-- where it is done
abbrev pub LeavesProof : Option Files → Question → Type 0
LeavesProof files question = Leaves statuses.NoPattern files question

abbrev pub LeavesLog : Option Files → Question → Type 0
LeavesLog files question = Leaves statuses.Undecided files question

abbrev pub LeavesCertificate : Option Files → Question → Type 0
LeavesCertificate files question = Leaves statuses.Pattern files question

abbrev pub LeavesTrimmed : Option Files → Question → Type 0
LeavesTrimmed files question = Leaves statuses.Done files question

-- a file that is written before the answer is looked for stands whole
abbrev pub HasWhole : Option Files → Option AnswerFile → Type 0
HasWhole (Some files) (Some file) = map.get files file.name ≡ Some file.bytes
HasWhole files file = Unit {0}

-- the files that are left hold the bytes of a proof, a task asks of them just whether it is accepted, where it is no longer than a check
-- reads, and the yes holds
pub record IsPublished (task : Task) (question : List ℕ → Question) (proof : List ℕ) (files : Files) : Type 0 where
  pub bytes : List ℕ
  pub stands : map.get files proof ≡ Some bytes
  pub asked : length bytes ≤ proof_limit → question_of task files ≡ Ok (question bytes)
  pub holds : YesHolds (question bytes)

-- after a search that found nothing, the check with the same words says yes
abbrev pub Publishes : Result Task WordsError → Option Files → Option Files → Type 0
Publishes (Ok (tasks.Search source effort further)) (Some before) (Some after) =
    (subject : Subject) × IsPublished (tasks.Check source effort.proof) (questions.Check subject) effort.proof after
Publishes (Ok (tasks.Extremal extreme source formulation effort further)) (Some before) (Some after) =
    (asked : Asked) × IsPublished (tasks.Check (sources.Problem source formulation) effort.proof) (questions.Check (subjects.Problem asked)) effort.proof after
Publishes task before after = Unit {0}

-- the demands with a bound more behind the others
abbrev pub demands_bounded : Demands → Bound → Demands
demands_bounded demands bound = record demands { bounds = demands.bounds ++ bound ∷ [] }

abbrev pub source_bounded : ProblemSource → Bound → ProblemSource
source_bounded source bound = record source { demands = demands_bounded source.demands bound }

-- after a search that found the fewest live cells, of which there are some, or the most, which aren't all, the check with the bound more that asks for
-- a solution beyond says yes
abbrev pub PublishesExtreme : Result Task WordsError → Option Files → Option Files → Type 0
PublishesExtreme (Ok (tasks.Extremal extreme source formulation effort further)) (Some before) (Some after) =
    (asked : Asked) × ((history : History) × IsOfExtreme extreme asked history × ((bound : Bound) → beyond_it extreme asked.problem history ≡ Some bound
    → IsPublished (tasks.Check (sources.Problem (source_bounded source bound) formulation) effort.proof) (questions.Check (subjects.Problem (asked_bounded asked bound))) effort.proof after))
PublishesExtreme task before after = Unit {0}

-- where the inputs ask a question, and no call of the shelf or of the standard output failed, it is answered, but for want of
-- memory, and what the answer's status says holds
abbrev pub IsComplete : Result Task WordsError → Option Files → Moment → Moment → Status → Type 0
IsComplete (Ok task) (Some files) before after status = (question : Question) → question_of task files ≡ Ok question
    → (Rose before.shelf.faults after.shelf.faults → ⊥) → (Rose before.out.faults after.out.faults → ⊥) → (status ≡ statuses.Memory) ⊎ Holds question status
IsComplete (Ok task) None before after status = Unit {0}
IsComplete (Err error) files before after status = Unit {0}

-- the file of an input isn't there
abbrev pub MissesFile : Result Task WordsError → Option Files → Type 0
MissesFile (Ok task) (Some files) = question_of task files ≡ Err (faults.Outside outside.NoFile)
MissesFile (Ok task) None = Unit {0}
MissesFile (Err error) files = ⊥

-- a failure of the outside has a cause: a count of faults rose, or an input isn't there
abbrev pub HasCause : Result Task WordsError → Moment → Moment → Type 0
HasCause task before after =
    Rose before.shelf.faults after.shelf.faults ⊎ Rose before.out.faults after.out.faults ⊎ MissesFile task (files_at before.shelf)

-- no call of the shelf or of the standard output failed
pub record NoCallFailed (before after : Moment) : Type 0 where
  pub shelf : after.shelf.faults ≡ before.shelf.faults
  pub out : after.out.faults ≡ before.out.faults

-- nothing failed, and the standard error is as before
pub record NothingFailed (before after : Moment) : Type 0 where
  pub shelf : after.shelf.faults ≡ before.shelf.faults
  pub out : after.out.faults ≡ before.out.faults
  pub err : after.err ≡ before.err

-- no count of faults falls
pub record CountsNeverFall (before after : Moment) : Type 0 where
  pub shelf : before.shelf.faults ≤ after.shelf.faults
  pub out : before.out.faults ≤ after.out.faults
  pub err : before.err.faults ≤ after.err.faults
