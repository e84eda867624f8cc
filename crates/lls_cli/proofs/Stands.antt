-- A file that is written before the answer is looked for stands whole once the question is answered.
use Rattle.std.proofs.Common.{◌≡◌, ◌≢◌, ℕ, List, [], ◌∷◌, Option, None, Some, Result, Ok, Err, refl, ap, sym, subst, ◌∙◌}
use Rattle.std.specs.FinMap as map
use Rattle.std.specs.Option.{option_map}
use Rattle.lls_base.specs.Shelf.{Files}
use Rattle.lls_base.proofs.FileMaps.{get-insert_same}
use Rattle.lls_words.specs.declared.error.WordsError.{WordsError}
use Rattle.lls_cli.specs.declared.task.Task.{Task}
use Rattle.lls_cli.specs.declared.task.Task.TheVariants as tasks
use Rattle.lls_answers.specs.Questions.{Question}
use Rattle.lls_answers.specs.Questions as questions
use Rattle.lls_answers.specs.declared.answer_file.AnswerFile.{AnswerFile}
use Rattle.lls_answers.specs.declared.answer.Answer.{Answer}
use Rattle.lls_answers.specs.declared.status.Status.{Status}
use Rattle.lls_answers.specs.declared.status.Status.TheVariants as statuses
use Rattle.lls_answers.specs.Answer.{ahead_of, meaning_of}
use Rattle.lls_outside.specs.Moment.{ShelfMoment, Moment, files_at}
use Rattle.lls_answers.specs.Standing.{WroteFile}
use Rattle.lls_cli.specs.Ends.{End, IsEnd}
use Rattle.lls_cli.specs.Claims.{OfQuestion, IsAnswered, HasWhole}
use Rattle.lls_cli.proofs.Apart.{AreApart, IsApart}
use Rattle.lls_cli.proofs.Behind.{WroteAhead}
use Rattle.lls_cli.proofs.Consequences.{IsAsked, meant, of_this}
use Rattle.lls_cli.proofs.Changes.{Same}
use Rattle.lls_answers.proofs.Standing.{wrote_some}
use Rattle.lls_cli.proofs.Files.{answer_leaves}
use Rattle.lls_answers.proofs.Laws.{lawful}
use Rattle.lls_cli.proofs.Tasks.{IsOf, is_of}

-- the files that a question writes have different names
abbrev NamesApart : Question → Type 0
NamesApart question = (file : AnswerFile) → ahead_of question ≡ Some file → (name : List ℕ) → (meaning_of question).writes statuses.Outside ≡ name ∷ [] → file.name ≢ name

one_file : (question : Question) → ahead_of question ≡ None → NamesApart question
one_file question none file is = absurd cc

asked_apart : (task : Task) (question : Question) → IsApart task → IsOf task question → NamesApart question
asked_apart (tasks.Check source proof) question apart is = subst NamesApart (sym is.2) (one_file (questions.Check is.0 is.1) refl)
asked_apart (tasks.Search source effort further) question apart is = subst NamesApart (sym is.1) (one_file (questions.Search is.0 effort further.rle) refl)
asked_apart (tasks.Judge source pattern rle) question apart is = subst NamesApart (sym is.2) (one_file (questions.Judge is.0 is.1) refl)
asked_apart (tasks.Encode source) question apart is = subst NamesApart (sym is.1) (one_file (questions.Encode is.0) refl)
asked_apart (tasks.Print rule) question apart is = subst NamesApart (sym is) (one_file (questions.Print rule) refl)
asked_apart (tasks.Make seed size file effort) question apart is =
    subst NamesApart (sym is) (λ ahead named other written equal.
    let first : file ≡ ahead.name = cc in
    let second : effort.proof ≡ other = cc in
    apart (first ∙ equal ∙ sym second))
asked_apart (tasks.Extremal extreme source formulation effort further) question apart is = subst NamesApart (sym is.1) (one_file (questions.Extremal extreme is.0 effort further.rle) refl)
asked_apart (tasks.Trim formula proof output) question apart is = subst NamesApart (sym is.2) (one_file (questions.Trim is.0 is.1 output) refl)

names_apart : (task : Result Task WordsError) (files : Option Files) (question : Question) → AreApart task → IsAsked task files question → NamesApart question
names_apart (Ok task) files question apart asked = asked_apart task question apart (is_of task files question asked)
names_apart (Err error) files question apart asked = absurd asked

nothing_ahead : (files : Option Files) → HasWhole files None
nothing_ahead None = tt
nothing_ahead (Some files) = tt

-- a file that was written, and that nothing changed then
stands_from : (file : AnswerFile) (before mid after : Option Files) → mid ≡ option_map (λ files. map.insert files file.name file.bytes) before → Same file.name mid after → HasWhole after (Some file)
stands_from file before mid None is same = tt
stands_from file None mid (Some files) is same =
    let none : Some (map.get files file.name) ≡ None = same ∙ ap (option_map (λ known. map.get known file.name)) is in
    absurd cc
stands_from file (Some known) mid (Some files) is same =
    let found : Some (map.get files file.name) ≡ Some (map.get (map.insert known file.name file.bytes) file.name) = same ∙ ap (option_map (λ old. map.get old file.name)) is in
    let equal : map.get files file.name ≡ map.get (map.insert known file.name file.bytes) file.name = cc in
    equal ∙ get-insert_same known file.name file.bytes

stands_in : (question : Question) (answer : Answer) (before mid after : ShelfMoment) (ahead : Option AnswerFile) → ahead_of question ≡ ahead → NamesApart question → (meaning_of question).answers answer
    → WroteAhead ahead before mid → WroteFile answer.file mid after → HasWhole (files_at after) ahead
stands_in question answer before mid after None is apart right wrote_ahead wrote = nothing_ahead (files_at after)
stands_in question answer before mid after (Some file) is apart right wrote_ahead wrote =
    stands_from file (files_at before) (files_at mid) (files_at after) (wrote_some (Some file) file before mid refl wrote_ahead)
    (answer_leaves (meaning_of question) answer mid after file.name ((lawful question).writes answer right) (λ other written. apart file is other written) wrote)

pub stands : (task : Result Task WordsError) (before after : Moment) (status : Status) → AreApart task → (end : End) × IsEnd task before after status end → IsAnswered status
    → OfQuestion (λ question. HasWhole (files_at after.shelf) (ahead_of question)) task (files_at before.shelf)
stands task before after status apart ended is =
    let given = meant task before after status ended is in
    of_this (λ question. HasWhole (files_at after.shelf) (ahead_of question)) given.question task (files_at before.shelf) given.asked
    (stands_in given.question given.answer before.shelf given.mid after.shelf (ahead_of given.question) refl (names_apart task (files_at before.shelf) given.question apart given.asks)
    given.right.answers given.ahead given.wrote)
