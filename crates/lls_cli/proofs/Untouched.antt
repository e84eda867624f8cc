-- The printing of a rule reads nothing and writes nothing, so it leaves the shelf as it is.
use Rattle.std.proofs.Common.{◌≡◌, Bool, List, ℕ, Option, None, Some, Result, Ok, Err, refl, ap, subst, ◌∙◌, inl, inr}
use Rattle.lls_base.specs.Shelf.{Contents, Files, known_files, known_rest, known_target}
use Rattle.lls_words.specs.declared.error.WordsError.{WordsError}
use Rattle.lls_answers.specs.Questions.{Question}
use Rattle.lls_answers.specs.Questions as questions
use Rattle.lls_answers.specs.declared.answer.Answer.{Answer}
use Rattle.lls_answers.specs.declared.status.Status.{Status}
use Rattle.lls_cli.specs.declared.task.Task.{Task}
use Rattle.lls_cli.specs.declared.task.Task.TheVariants as tasks
use Rattle.lls_answers.specs.Answer.{IsAnswer}
use Rattle.lls_cli.specs.Question.{Asks}
use Rattle.lls_answers.proofs.Standing.{option_map-none}
use Rattle.lls_cli.proofs.Tasks.{is_of}
use Rattle.lls_outside.specs.Moment.{ShelfMoment, Moment, files_at}
use Rattle.lls_cli.specs.Claims.{ReadsAndWritesNothing}
use Rattle.lls_outside.specs.Kept.{KeepsInput}
use Rattle.lls_answers.specs.Standing.{WroteFile}
use Rattle.lls_cli.specs.Ends.{End, refused, lacked, input_failed, ahead_failed, answered, file_failed, output_failed, Ends, IsEnd}

abbrev contents_of : Files → Option (List ℕ) → Option (List ℕ) → Contents
contents_of files rest target = record { files = files; rest = rest; target = target }

abbrev shelf_of : Option Contents → Bool → Bool → ℕ → ShelfMoment
shelf_of told has_input has_output faults = record { told = told; has_input = has_input; has_output = has_output; faults = faults }

same_told : (a b : Option Contents) → known_files b ≡ known_files a → known_rest b ≡ known_rest a → known_target b ≡ known_target a → b ≡ a
same_told None None files rest target = refl
same_told None (Some d) files rest target = absurd cc
same_told (Some c) None files rest target = absurd cc
same_told (Some c) (Some d) files rest target =
    let one : d.files ≡ c.files = cc in
    let three : d.target ≡ c.target = cc in
    ap (λ f. Some (contents_of f d.rest d.target)) one ∙ ap (λ r. Some (contents_of c.files r d.target)) rest ∙ ap (λ t. Some (contents_of c.files c.rest t)) three

same_shelf : (before after : ShelfMoment) → KeepsInput before after → files_at after ≡ files_at before → known_target after.told ≡ known_target before.told → after.has_output ≡ before.has_output
    → after.faults ≡ before.faults → after ≡ before
same_shelf before after input files target output faults =
    ap (λ t. shelf_of t after.has_input after.has_output after.faults) (same_told before.told after.told files input.rest target)
    ∙ ap (λ i. shelf_of before.told i after.has_output after.faults) input.has_input
    ∙ ap (λ o. shelf_of before.told before.has_input o after.faults) output
    ∙ ap (λ n. shelf_of before.told before.has_input before.has_output n) faults

-- the same where no file was written
same_unwritten : (before after : ShelfMoment) → KeepsInput before after → WroteFile None before after → after ≡ before
same_unwritten before after input wrote =
    same_shelf before after input (wrote.files ∙ option_map-none (files_at before)) wrote.output.0 wrote.output.1 wrote.faults

no_file : (rule : List Bool) (answer : Answer) → IsAnswer (questions.Print rule) answer → answer.file ≡ None
no_file rule answer right = ap (λ (a : Answer). a.file) right.answers

prints : (rule : List Bool) (before after : Moment) (status : Status) (end : End) (asked : (question : Question) × Asks (tasks.Print rule) (files_at before.shelf) (Ok question) × Ends question before after status end)
    → Ends (questions.Print rule) before after status end
prints rule before after status end asked = subst (λ q. Ends q before after status end) (is_of (tasks.Print rule) (files_at before.shelf) asked.0 asked.1) asked.2

print_untouched : (rule : List Bool) (before after : Moment) (status : Status) (end : End) → IsEnd (Ok (tasks.Print rule)) before after status end → after.shelf ≡ before.shelf
print_untouched rule before after status (refused fault) ended = let same = ended.1.1 in absurd cc
print_untouched rule before after status lacked (input, inl lacks) =
    same_shelf before.shelf after.shelf input lacks.shelf.files lacks.shelf.target lacks.shelf.has_output lacks.shelf_faults
print_untouched rule before after status lacked (input, inr asked) =
    let lacks = prints rule before after status lacked asked in
    same_shelf before.shelf after.shelf input lacks.shelf.files lacks.shelf.target lacks.shelf.has_output lacks.shelf_faults
print_untouched rule before after status (input_failed fault) ended = absurd ended.1.0
print_untouched rule before after status (ahead_failed fault) ended = absurd (prints rule before after status (ahead_failed fault) ended.1)
print_untouched rule before after status (answered answer) ended =
    let given = prints rule before after status (answered answer) ended.1 in
    same_unwritten before.shelf after.shelf ended.0 (subst (λ file. WroteFile file before.shelf after.shelf) (no_file rule answer given.0) given.1.shelf)
print_untouched rule before after status (file_failed answer fault) ended =
    let given = prints rule before after status (file_failed answer fault) ended.1 in
    let none = no_file rule answer given.0 in
    let some = given.1.file_is in
    absurd cc
print_untouched rule before after status (output_failed answer) ended =
    let given = prints rule before after status (output_failed answer) ended.1 in
    same_unwritten before.shelf after.shelf ended.0 (subst (λ file. WroteFile file before.shelf after.shelf) (no_file rule answer given.0) given.1.shelf)

pub untouched : (task : Result Task WordsError) (before after : Moment) (status : Status) → ReadsAndWritesNothing task → (end : End) × IsEnd task before after status end → after.shelf ≡ before.shelf
untouched (Ok (tasks.Print rule)) before after status nothing ended = print_untouched rule before after status ended.0 ended.1
untouched (Ok (tasks.Check source proof)) before after status nothing ended = absurd nothing
untouched (Ok (tasks.Search source effort further)) before after status nothing ended = absurd nothing
untouched (Ok (tasks.Judge source pattern rle)) before after status nothing ended = absurd nothing
untouched (Ok (tasks.Encode source)) before after status nothing ended = absurd nothing
untouched (Ok (tasks.Make seed size file effort)) before after status nothing ended = absurd nothing
untouched (Ok (tasks.Extremal extreme source formulation effort further)) before after status nothing ended = absurd nothing
untouched (Ok (tasks.Trim formula proof output)) before after status nothing ended = absurd nothing
untouched (Err error) before after status nothing ended = absurd nothing
