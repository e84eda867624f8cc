-- What a run promises: the contract of `run`, as a page.
use Rattle.std.specs.Prelude.{◌≡◌, ◌≢◌, ◌⊎◌, IsErr, Result}
use Rattle.lls_words.specs.declared.error.WordsError.{WordsError}
use Rattle.lls_answers.specs.Questions.{Question}
use Rattle.lls_answers.specs.declared.status.Status.{Status}
use Rattle.lls_answers.specs.declared.status.Status.TheVariants as statuses
use Rattle.lls_cli.specs.declared.task.Task.{Task}
use Rattle.lls_answers.specs.Answer.{HasShortBudget, NoHolds, NoneHolds, SomeHolds, YesHolds, ahead_of}
use Rattle.lls_cli.specs.Claims.{ChangesOnly, CountsNeverFall, HasCause, HasWhole, IsAnswered, IsComplete, IsFaultStatus, IsSilent, LeavesBegun, LeavesCertificate, LeavesLog, LeavesProof, LeavesTrimmed, NoCallFailed, NothingFailed, OfQuestion, Publishes, PublishesExtreme, ReadsAndWritesNothing, SaysAnswer, SaysWhy, outputs_of_words}
use Rattle.lls_cli.specs.Ends.{End, IsEnd}
use Rattle.lls_cli.specs.Limits.{AreLimits}
use Rattle.lls_outside.specs.Moment.{Moment, files_at}

-- a fact of the question that the words and the files ask that stand before the run
abbrev pub Asked : (Question → Type 0) → Result Task WordsError → Moment → Type 0
Asked Fact task before = OfQuestion Fact task (files_at before.shelf)

-- a run of the words of this task that begins at one moment of the outside and ends at another with this status
pub record IsRun (task : Result Task WordsError) (before after : Moment) (status : Status) : Type 0 where
  -- how the outside stands at the exit, by the ways to end: an answer is right and was given whole, or the outside failed while it was
  -- given; or the words, the inputs or an allocation were refused, or an input failed. The rest follows from it
  pub ends : (end : End) × IsEnd task before after status end
  -- the yes of a check says that the proof is accepted, and so that there is nothing to find, and its no that it isn't accepted; those of a
  -- judging that the pattern is a solution, or is none; and those of a trim that the proof is accepted and rests on unit propagation alone, or doesn't
  pub yes : status ≡ statuses.Done → Asked YesHolds task before
  pub no : status ≡ statuses.Refused → Asked NoHolds task before
  -- a search says that it found something only where there is something, with the fewest live cells or the most where that was asked, and that there
  -- is nothing only where there is nothing; it is undecided only where its budget is below 9 to the number of the formula's variables, and below
  -- 3 to it where no learnt clause is deleted
  pub found : status ≡ statuses.Pattern → Asked SomeHolds task before
  pub absent : status ≡ statuses.NoPattern → Asked NoneHolds task before
  pub undecided : status ≡ statuses.Undecided → Asked HasShortBudget task before
  -- where there is nothing its file has a proof that the checker accepts, and so it has where the fewest live cells are some; where it is undecided,
  -- the log of just as many clauses as it may learn, each of them fresh; and where a trim is done, what the empty clause rests on
  pub proof : status ≡ statuses.NoPattern → Asked (LeavesProof (files_at after.shelf)) task before
  pub certified : status ≡ statuses.Pattern → Asked (LeavesCertificate (files_at after.shelf)) task before
  pub log : status ≡ statuses.Undecided → Asked (LeavesLog (files_at after.shelf)) task before
  pub trimmed : status ≡ statuses.Done → Asked (LeavesTrimmed (files_at after.shelf)) task before
  -- a made problem's search file stands whole at its answers
  pub made : IsAnswered status → Asked (λ question. HasWhole (files_at after.shelf) (ahead_of question)) task before
  -- what a search found to be absent, or the extreme, a check with the same words says again
  pub published : status ≡ statuses.NoPattern → Publishes task (files_at before.shelf) (files_at after.shelf)
  pub published_extreme : status ≡ statuses.Pattern → PublishesExtreme task (files_at before.shelf) (files_at after.shelf)
  -- where the inputs ask a question and nothing fails, it is answered, but for want of memory; with a budget that isn't below these
  -- powers the answer is that there is something, or nothing
  pub complete : IsComplete task (files_at before.shelf) before after status
  -- words are refused exactly where they are no command line, whatever the shelf tells, but for want of memory
  pub words : status ≡ statuses.Words → IsErr task
  pub all_words : IsErr task → (status ≡ statuses.Words) ⊎ (status ≡ statuses.Memory)
  -- a failure of the outside comes only where a count of faults rose, or where an input isn't there; any other status only where no
  -- call of the shelf or of the standard output failed, and an answer's where nothing failed
  pub outside : status ≡ statuses.Outside → HasCause task before after
  pub no_call_failed : status ≢ statuses.Outside → NoCallFailed before after
  pub nothing_failed : IsAnswered status → NothingFailed before after
  -- at an answer's status the standard output grew by the text of a right answer, whose file is the current output; at that of a
  -- fault the standard error says which, by its line, or by first bytes of it where that failed too
  pub said : IsAnswered status → Asked (SaysAnswer before after status) task before
  pub error : IsFaultStatus status → SaysWhy status before.err after.err
  -- after a failure of the outside a file that was to be written is unchanged or has first bytes of its text
  pub begun : status ≡ statuses.Outside → LeavesBegun task (files_at before.shelf) (files_at after.shelf)
  -- what stands after it: the output where nothing is said, all files but those that the task writes, the whole shelf where a rule is
  -- printed, and the counts of faults
  pub silent : IsSilent status → after.out.written ≡ before.out.written
  pub files : ChangesOnly (outputs_of_words task status) (files_at before.shelf) (files_at after.shelf)
  pub untouched : ReadsAndWritesNothing task → after.shelf ≡ before.shelf
  pub counts : CountsNeverFall before after
  -- the limits of which the definitions speak by name
  pub limits : AreLimits
