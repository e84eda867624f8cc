-- What the right answers to each question do to files.
use Rattle.std.proofs.Common.{◌≡◌, ◌∙◌, Result, sym, subst}
use Rattle.lls_words.specs.declared.error.WordsError.{WordsError}
use Rattle.lls_answers.specs.declared.status.Status.{Status}
use Rattle.lls_cli.specs.declared.task.Task.{Task}
use Rattle.lls_answers.specs.Answer.{Leaves}
use Rattle.lls_outside.specs.Moment.{Moment, files_at}
use Rattle.lls_cli.specs.Ends.{End, IsEnd}
use Rattle.lls_cli.specs.Claims.{OfQuestion, IsAnswered}
use Rattle.lls_cli.proofs.Consequences.{meant, of_this}
use Rattle.lls_answers.proofs.Laws.{lawful}

-- what a run leaves in files, by the status of its answer
pub leaves_at : (wanted : Status) → IsAnswered wanted → (task : Result Task WordsError) (before after : Moment) (status : Status) → (end : End) × IsEnd task before after status end → status ≡ wanted
    → OfQuestion (Leaves wanted (files_at after.shelf)) task (files_at before.shelf)
leaves_at wanted is_given task before after status ended is =
    let given = meant task before after status ended (subst IsAnswered (sym is) is_given) in
    of_this (Leaves wanted (files_at after.shelf)) given.question task (files_at before.shelf) given.asked
    (subst (λ s. Leaves s (files_at after.shelf) given.question) (sym given.status_is ∙ is)
    ((lawful given.question).leaves given.answer given.mid after.shelf given.right.answers given.wrote))
