-- Which files a run changes, and what it leaves in them.
use Rattle.std.proofs.Common.{◌≡◌, ◌≢◌, ℕ, List, [], ◌∷◌, ◌++◌, Option, None, Some, Result, Ok, Err, refl, ap, sym, subst, ◌∙◌, inl, inr}
use Rattle.std.proofs.lemmas.List.Elements.{All-nil, All-cons}
use Rattle.std.specs.FinMap as map
use Rattle.std.specs.Option.{option_map}
use Rattle.lls_base.specs.Shelf.{Files}
use Rattle.lls_words.specs.declared.error.WordsError.{WordsError}
use Rattle.lls_cli.specs.declared.task.Task.{Task}
use Rattle.lls_cli.specs.declared.task.Task.TheVariants as tasks
use Rattle.lls_answers.specs.Questions.{Question}
use Rattle.lls_answers.specs.declared.answer_file.AnswerFile.{AnswerFile}
use Rattle.lls_answers.specs.declared.answer.Answer.{Answer}
use Rattle.lls_cli.specs.declared.fault.Fault.{Fault}
use Rattle.lls_answers.specs.declared.status.Status.{Status}
use Rattle.lls_answers.specs.declared.status.Status.TheVariants as statuses
use Rattle.lls_cli.specs.Question.{Asks}
use Rattle.lls_answers.specs.Meaning.{Meaning, search_file_at}
use Rattle.lls_answers.specs.Answer.{ahead_of, meaning_of}
use Rattle.lls_outside.specs.Moment.{ShelfMoment, Moment, files_at}
use Rattle.lls_answers.specs.Standing.{WroteFile}
use Rattle.lls_cli.specs.Ends.{LeavesPart, End, refused, lacked, input_failed, ahead_failed, answered, file_failed, output_failed, IsEndBehind, Ends, IsEnd}
use Rattle.lls_cli.specs.Claims.{outputs_of, outputs_of_words, ChangesOnly}
use Rattle.lls_cli.proofs.Behind.{answer_of, WroteAhead}
use Rattle.lls_cli.proofs.Consequences.{ahead_part}
use Rattle.lls_cli.proofs.Changes.{Same, changes_both, changes_none, inserted, part_changes}
use Rattle.lls_answers.proofs.Standing.{wrote_none, wrote_some}
use Rattle.lls_answers.proofs.Laws.{lawful}
use Rattle.lls_answers.proofs.Outputs.{MayWriteAhead, WritesAtMost}
use Rattle.lls_cli.proofs.Tasks.{IsOf, is_of}

-- the files that may have changed at a status: the one that is written ahead, and the one of the answer
abbrev ahead_outputs : Option AnswerFile → Status → List (List ℕ)
ahead_outputs None status = []
ahead_outputs (Some file) status = search_file_at status file.name

abbrev pub outputs_asked : Question → Status → List (List ℕ)
outputs_asked question status = ahead_outputs (ahead_of question) status ++ (meaning_of question).writes status

-- they are those of the task that asks
pub asked_outputs : (task : Task) (files : Option Files) (question : Question) (status : Status) → Asks task files (Ok question) → outputs_asked question status ≡ outputs_of task status
asked_outputs task files question status asked = by_task task (is_of task files question asked) where
  by_task : (task : Task) → IsOf task question → outputs_asked question status ≡ outputs_of task status
  by_task (tasks.Check source proof) is = ap (λ q. outputs_asked q status) is.2
  by_task (tasks.Search source effort further) is = ap (λ q. outputs_asked q status) is.1
  by_task (tasks.Judge source pattern rle) is = ap (λ q. outputs_asked q status) is.2
  by_task (tasks.Encode source) is = ap (λ q. outputs_asked q status) is.1
  by_task (tasks.Print rule) is = ap (λ q. outputs_asked q status) is
  by_task (tasks.Make seed size file effort) is = ap (λ q. outputs_asked q status) is
  by_task (tasks.Extremal extreme source formulation effort further) is = ap (λ q. outputs_asked q status) is.1
  by_task (tasks.Trim formula proof output) is = ap (λ q. outputs_asked q status) is.2

-- the file that is written ahead changes alone
ahead_changes : (ahead : Option AnswerFile) (status : Status) (before mid : ShelfMoment) → MayWriteAhead ahead status → WroteAhead ahead before mid
    → ChangesOnly (ahead_outputs ahead status) (files_at before) (files_at mid)
ahead_changes None status before mid may same = ap files_at same
ahead_changes (Some file) status before mid may wrote =
    subst (λ names. ChangesOnly names (files_at before) (files_at mid)) (sym (may file refl))
    (inserted file.name file.bytes (files_at before) (files_at mid) (wrote_some (Some file) file before mid refl wrote))

-- and so does the file of an answer, at its status and where something fails
answer_changes : (meaning : Meaning) (answer : Answer) (mid after : ShelfMoment) → WritesAtMost meaning answer → WroteFile answer.file mid after
    → ChangesOnly (meaning.writes answer.status) (files_at mid) (files_at after)
answer_changes meaning answer mid after (inl none) wrote =
    changes_none (meaning.writes answer.status) (files_at mid) (files_at after) (wrote_none answer.file mid after none wrote)
answer_changes meaning answer mid after (inr has) wrote =
    subst (λ names. ChangesOnly names (files_at mid) (files_at after)) (sym has.at_status)
    (inserted has.file.name has.file.bytes (files_at mid) (files_at after) (wrote_some answer.file has.file mid after has.file_is wrote))

failing_changes : (meaning : Meaning) (answer : Answer) (mid after : ShelfMoment) → WritesAtMost meaning answer → WroteFile answer.file mid after
    → ChangesOnly (meaning.writes statuses.Outside) (files_at mid) (files_at after)
failing_changes meaning answer mid after (inl none) wrote =
    changes_none (meaning.writes statuses.Outside) (files_at mid) (files_at after) (wrote_none answer.file mid after none wrote)
failing_changes meaning answer mid after (inr has) wrote =
    subst (λ names. ChangesOnly names (files_at mid) (files_at after)) (sym has.at_failure)
    (inserted has.file.name has.file.bytes (files_at mid) (files_at after) (wrote_some answer.file has.file mid after has.file_is wrote))

part_of_answer : (meaning : Meaning) (answer : Answer) (fault : Fault) (file : AnswerFile) (mid after : Option Files) → WritesAtMost meaning answer → answer.file ≡ Some file
    → LeavesPart fault file mid after → ChangesOnly (meaning.writes statuses.Outside) mid after
part_of_answer meaning answer fault file mid after (inl none) is part = absurd cc
part_of_answer meaning answer fault file mid after (inr has) is part =
    let some = has.file_is in
    let same : file ≡ has.file = cc in
    subst (λ names. ChangesOnly names mid after) (ap (λ (f : AnswerFile). f.name ∷ []) same ∙ sym has.at_failure) (part_changes fault file mid after part)

-- only what the question may write has changed, so only what the task may
of_asked : (task : Task) (question : Question) (status ended : Status) (before after : Moment) → Asks task (files_at before.shelf) (Ok question) → ended ≡ status
    → ChangesOnly (outputs_asked question status) (files_at before.shelf) (files_at after.shelf) → ChangesOnly (outputs_of task ended) (files_at before.shelf) (files_at after.shelf)
of_asked task question status ended before after asked is changes =
    subst (λ names. ChangesOnly names (files_at before.shelf) (files_at after.shelf))
    (asked_outputs task (files_at before.shelf) question status asked ∙ ap (outputs_of task) (sym is)) changes

-- want of memory leaves the file of a made problem as it was, or whole
lacking_changes : (task : Task) (question : Question) (before after : Moment) (status : Status) → Asks task (files_at before.shelf) (Ok question) → Ends question before after status lacked
    → ChangesOnly (outputs_of task status) (files_at before.shelf) (files_at after.shelf)
lacking_changes task question before after status asked ended = by_ahead (ahead_of question) refl ended where
  by_ahead : (ahead : Option AnswerFile) → ahead_of question ≡ ahead → IsEndBehind ahead question before after status lacked
      → ChangesOnly (outputs_of task status) (files_at before.shelf) (files_at after.shelf)
  by_ahead None is lacks = changes_none (outputs_of task status) _ _ lacks.shelf.files
  by_ahead (Some file) is (inl lacks) = changes_none (outputs_of task status) _ _ lacks.shelf.files
  by_ahead (Some file) is (inr behind) =
      let both : ChangesOnly (ahead_outputs (Some file) statuses.Memory ++ (meaning_of question).writes statuses.Memory) (files_at before.shelf) (files_at after.shelf) =
      changes_both (file.name ∷ []) ((meaning_of question).writes statuses.Memory) (files_at before.shelf) (files_at behind.0) (files_at after.shelf)
      (inserted file.name file.bytes (files_at before.shelf) (files_at behind.0) (wrote_some (Some file) file before.shelf behind.0 refl behind.1))
      (changes_none ((meaning_of question).writes statuses.Memory) (files_at behind.0) (files_at after.shelf) behind.2.shelf.files) in
      of_asked task question statuses.Memory status before after asked behind.2.status_is
      (subst (λ ahead. ChangesOnly (ahead_outputs ahead statuses.Memory ++ (meaning_of question).writes statuses.Memory) (files_at before.shelf) (files_at after.shelf)) (sym is) both)

failed_ahead_changes : (task : Task) (question : Question) (fault : Fault) (before after : Moment) (status : Status) → Asks task (files_at before.shelf) (Ok question)
    → Ends question before after status (ahead_failed fault) → ChangesOnly (outputs_of task status) (files_at before.shelf) (files_at after.shelf)
failed_ahead_changes task question fault before after status asked ended =
    let failed = ahead_part question before after status fault ended in
    let names = (meaning_of question).writes statuses.Outside in
    let first : ChangesOnly (ahead_outputs (Some failed.file) statuses.Outside) (files_at before.shelf) (files_at after.shelf) =
    part_changes fault failed.file (files_at before.shelf) (files_at after.shelf) failed.part in
    of_asked task question statuses.Outside status before after asked failed.status_is
    (changes_both (ahead_outputs (ahead_of question) statuses.Outside) names (files_at before.shelf) (files_at after.shelf) (files_at after.shelf)
    (subst (λ ahead. ChangesOnly (ahead_outputs ahead statuses.Outside) (files_at before.shelf) (files_at after.shelf)) (sym failed.file_is) first)
    (changes_none names (files_at after.shelf) (files_at after.shelf) refl))

-- no file changes but those that the task may write at this status
pub changes_only : (task : Result Task WordsError) (before after : Moment) (status : Status) → (end : End) × IsEnd task before after status end
    → ChangesOnly (outputs_of_words task status) (files_at before.shelf) (files_at after.shelf)
changes_only (Ok task) before after status (refused fault, ended) = changes_none (outputs_of task status) _ _ ended.1.2.shelf.files
changes_only (Ok task) before after status (lacked, (leaves, inl lacks)) = changes_none (outputs_of task status) _ _ lacks.shelf.files
changes_only (Ok task) before after status (lacked, (leaves, inr ended)) = lacking_changes task ended.0 before after status ended.1 ended.2
changes_only (Ok task) before after status (input_failed fault, ended) = changes_none (outputs_of task status) _ _ ended.1.1.shelf.files
changes_only (Ok task) before after status (ahead_failed fault, ended) = failed_ahead_changes task ended.1.0 fault before after status ended.1.1 ended.1.2
changes_only (Ok task) before after status (answered answer, ended) =
    let question = ended.1.0 in
    let given = answer_of task (files_at before.shelf) before after status (answered answer) tt ended.1 in
    let right = given.ended.0 in
    of_asked task question answer.status status before after ended.1.1 given.ended.1.status_is
    (changes_both (ahead_outputs (ahead_of question) answer.status) ((meaning_of question).writes answer.status) (files_at before.shelf) (files_at given.mid) (files_at after.shelf)
    (ahead_changes (ahead_of question) answer.status before.shelf given.mid ((lawful question).ahead answer.status right.holds) given.wrote)
    (answer_changes (meaning_of question) answer given.mid after.shelf ((lawful question).writes answer right.answers) given.ended.1.shelf))
changes_only (Ok task) before after status (file_failed answer fault, ended) =
    let question = ended.1.0 in
    let given = answer_of task (files_at before.shelf) before after status (file_failed answer fault) tt ended.1 in
    let failed = given.ended.1 in
    of_asked task question statuses.Outside status before after ended.1.1 failed.status_is
    (changes_both (ahead_outputs (ahead_of question) statuses.Outside) ((meaning_of question).writes statuses.Outside) (files_at before.shelf) (files_at given.mid) (files_at after.shelf)
    (ahead_changes (ahead_of question) statuses.Outside before.shelf given.mid (λ file is. refl) given.wrote)
    (part_of_answer (meaning_of question) answer fault failed.file (files_at given.mid) (files_at after.shelf) ((lawful question).writes answer given.ended.0.answers) failed.file_is failed.part))
changes_only (Ok task) before after status (output_failed answer, ended) =
    let question = ended.1.0 in
    let given = answer_of task (files_at before.shelf) before after status (output_failed answer) tt ended.1 in
    of_asked task question statuses.Outside status before after ended.1.1 given.ended.1.status_is
    (changes_both (ahead_outputs (ahead_of question) statuses.Outside) ((meaning_of question).writes statuses.Outside) (files_at before.shelf) (files_at given.mid) (files_at after.shelf)
    (ahead_changes (ahead_of question) statuses.Outside before.shelf given.mid (λ file is. refl) given.wrote)
    (failing_changes (meaning_of question) answer given.mid after.shelf ((lawful question).writes answer given.ended.0.answers) given.ended.1.shelf))
changes_only (Err error) before after status (refused fault, ended) = ap files_at ended.1
changes_only (Err error) before after status (lacked, ended) = ap files_at ended.0
changes_only (Err error) before after status (input_failed fault, ended) = absurd ended
changes_only (Err error) before after status (ahead_failed fault, ended) = absurd ended
changes_only (Err error) before after status (answered answer, ended) = absurd ended
changes_only (Err error) before after status (file_failed answer fault, ended) = absurd ended
changes_only (Err error) before after status (output_failed answer, ended) = absurd ended

-- an answer leaves all files but its own
pub answer_leaves : (meaning : Meaning) (answer : Answer) (mid after : ShelfMoment) (other : List ℕ) → WritesAtMost meaning answer
    → ((name : List ℕ) → meaning.writes statuses.Outside ≡ name ∷ [] → other ≢ name) → WroteFile answer.file mid after → Same other (files_at mid) (files_at after)
answer_leaves meaning answer mid after other (inl none) apart wrote = ap (option_map (λ files. map.get files other)) (wrote_none answer.file mid after none wrote)
answer_leaves meaning answer mid after other (inr has) apart wrote =
    inserted has.file.name has.file.bytes (files_at mid) (files_at after) (wrote_some answer.file has.file mid after has.file_is wrote) other
    (All-cons (λ changed. other ≢ changed) has.file.name [] (apart has.file.name has.at_failure) (All-nil (λ changed. other ≢ changed)))
