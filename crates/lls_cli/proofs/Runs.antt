-- What a run promises follows from how it ends.
use Rattle.std.proofs.Common.{Result, ap, refl}
use Rattle.lls_words.specs.declared.error.WordsError.{WordsError}
use Rattle.lls_answers.specs.declared.status.Status.{Status}
use Rattle.lls_answers.specs.declared.status.Status.TheVariants as statuses
use Rattle.lls_cli.specs.declared.task.Task.{Task}
use Rattle.lls_outside.specs.Moment.{SinkMoment, Moment}
use Rattle.lls_cli.specs.Ends.{End, IsEnd}
use Rattle.lls_cli.specs.Run.{IsRun}
use Rattle.lls_cli.proofs.Apart.{AreApart}
use Rattle.lls_cli.proofs.Begun.{leaves_begun}
use Rattle.lls_cli.proofs.Complete.{completes}
use Rattle.lls_cli.proofs.Consequences.{caused, counts_stay, holds_at, meant, no_call_failed, says_answer, stays_silent, words_all, words_alone}
use Rattle.lls_cli.proofs.Files.{changes_only}
use Rattle.lls_cli.proofs.Laws.{leaves_at}
use Rattle.lls_cli.proofs.Limits.{limits}
use Rattle.lls_cli.proofs.Published.{publishes, publishes_extreme}
use Rattle.lls_cli.proofs.Stands.{stands}
use Rattle.lls_cli.proofs.Untouched.{untouched}
use Rattle.lls_cli.proofs.Why.{says_why}

pub run_by : (task : Result Task WordsError) (before after : Moment) (status : Status) → AreApart task → (end : End) × IsEnd task before after status end → IsRun task before after status
run_by task before after status apart ended = record {
  ends = ended;
  yes = holds_at statuses.Done tt task before after status ended;
  no = holds_at statuses.Refused tt task before after status ended;
  found = holds_at statuses.Pattern tt task before after status ended;
  absent = holds_at statuses.NoPattern tt task before after status ended;
  undecided = holds_at statuses.Undecided tt task before after status ended;
  proof = leaves_at statuses.NoPattern tt task before after status ended;
  certified = leaves_at statuses.Pattern tt task before after status ended;
  log = leaves_at statuses.Undecided tt task before after status ended;
  trimmed = leaves_at statuses.Done tt task before after status ended;
  made = stands task before after status apart ended;
  published = λ is. publishes task _ _ status is apart (holds_at statuses.NoPattern tt task before after status ended is) (leaves_at statuses.NoPattern tt task before after status ended is)
      (changes_only task before after status ended);
  published_extreme = λ is. publishes_extreme task _ _ status is apart (leaves_at statuses.Pattern tt task before after status ended is) (changes_only task before after status ended);
  complete = completes task _ before after status refl ended;
  words = words_alone task before after status ended;
  all_words = words_all task before after status ended;
  outside = caused task before after status ended;
  no_call_failed = no_call_failed task before after status ended;
  nothing_failed = λ is. (meant task before after status ended is).nothing_failed;
  said = says_answer task before after status ended;
  error = says_why task before after status ended;
  begun = leaves_begun task before after status ended;
  silent = λ silent. ap (λ (s : SinkMoment). s.written) (stays_silent task before after status ended silent);
  files = changes_only task before after status ended;
  untouched = λ nothing. untouched task before after status nothing ended;
  counts = counts_stay task before after status ended;
  limits = limits;
}
