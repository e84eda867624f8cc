-- Where the inputs ask a question and nothing fails, the question is answered.
use Rattle.std.proofs.Common.{◌≡◌, Option, None, Some, Result, Ok, Err, sym, subst, ◌∙◌, inl, inr, ◌⊎◌}
use Rattle.lls_base.specs.Faults.{Rose}
use Rattle.lls_base.specs.Shelf.{Files}
use Rattle.lls_words.specs.declared.error.WordsError.{WordsError}
use Rattle.lls_cli.specs.declared.task.Task.{Task}
use Rattle.lls_answers.specs.Questions.{Question}
use Rattle.lls_cli.specs.declared.fault.Fault.{Fault}
use Rattle.lls_answers.specs.declared.status.Status.{Status}
use Rattle.lls_answers.specs.declared.status.Status.TheVariants as statuses
use Rattle.lls_cli.specs.Question.{question_of, Asks}
use Rattle.lls_answers.specs.Answer.{Holds, ahead_of}
use Rattle.lls_outside.specs.Moment.{Moment, files_at}
use Rattle.lls_cli.specs.Ends.{End, refused, lacked, input_failed, ahead_failed, answered, file_failed, output_failed, IsEnd}
use Rattle.lls_cli.specs.Claims.{IsComplete}
use Rattle.lls_cli.proofs.Behind.{ahead_faults, answer_of, lacking}
use Rattle.lls_cli.proofs.Consequences.{ahead_part, asks-question_of}

-- what these files ask is one thing alone
asked_once : (task : Task) (files : Option Files) (known : Files) (question : Question) (other : Result Question Fault) → files ≡ Some known → question_of task known ≡ Ok question
    → Asks task files other → other ≡ Ok question
asked_once task files known question other is asks asked = sym (asks-question_of task known other (subst (λ f. Asks task f other) is asked)) ∙ asks

-- a right answer's status says what holds of the question
answered_holds : (task : Task) (before after : Moment) (status : Status) (files : Files) (question asked : Question) → files_at before.shelf ≡ Some files → question_of task files ≡ Ok question
    → Asks task (files_at before.shelf) (Ok asked) → Holds asked status → (status ≡ statuses.Memory) ⊎ Holds question status
answered_holds task before after status files question asked told asks by holds =
    let same : Ok asked ≡ Ok question = asked_once task (files_at before.shelf) files question (Ok asked) told asks by in
    let is : asked ≡ question = cc in
    inr (subst (λ q. Holds q status) is holds)

completes_ok : (task : Task) (files : Files) (before after : Moment) (status : Status) → files_at before.shelf ≡ Some files → (end : End) × IsEnd (Ok task) before after status end
    → IsComplete (Ok task) (Some files) before after status
completes_ok task files before after status told (refused fault, ended) = λ question asks shelf out.
    let same : Err fault ≡ Ok question = asked_once task (files_at before.shelf) files question (Err fault) told asks ended.1.1 in
    absurd cc
completes_ok task files before after status told (lacked, ended) = λ question asks shelf out. inl (lacking task (files_at before.shelf) before after status ended.1).lacks.status_is
completes_ok task files before after status told (input_failed fault, ended) = λ question asks shelf out. absurd (shelf ended.1.1.shelf_rose)
completes_ok task files before after status told (ahead_failed fault, ended) = λ question asks shelf out. absurd (shelf (ahead_part ended.1.0 before after status fault ended.1.2).shelf_rose)
completes_ok task files before after status told (answered answer, ended) = λ question asks shelf out.
    let given = answer_of task (files_at before.shelf) before after status (answered answer) tt ended.1 in
    answered_holds task before after status files question ended.1.0 told asks ended.1.1 (subst (Holds ended.1.0) (sym given.ended.1.status_is) given.ended.0.holds)
completes_ok task files before after status told (file_failed answer fault, ended) = λ question asks shelf out.
    let given = answer_of task (files_at before.shelf) before after status (file_failed answer fault) tt ended.1 in
    absurd (shelf (subst (λ n. Rose n after.shelf.faults) (ahead_faults (ahead_of ended.1.0) before.shelf given.mid given.wrote) given.ended.1.shelf_rose))
completes_ok task files before after status told (output_failed answer, ended) = λ question asks shelf out.
    absurd (out (answer_of task (files_at before.shelf) before after status (output_failed answer) tt ended.1).ended.1.out_rose)

pub completes : (task : Result Task WordsError) (files : Option Files) (before after : Moment) (status : Status) → files_at before.shelf ≡ files → (end : End) × IsEnd task before after status end
    → IsComplete task files before after status
completes (Ok task) (Some files) before after status told ended = completes_ok task files before after status told ended
completes (Ok task) None before after status told ended = tt
completes (Err error) files before after status told ended = tt
