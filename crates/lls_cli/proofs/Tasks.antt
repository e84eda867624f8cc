-- What a task asks.
use Rattle.std.proofs.Common.{◌≡◌, List, ℕ, Option, Result, Ok, Err}
use Rattle.lls_base.specs.Results.{and_then}
use Rattle.lls_base.specs.Shelf.{Files}
use Rattle.lls_lit.specs.Formula.{Cnf}
use Rattle.lls_grid.specs.History.{History}
use Rattle.lls_problem.specs.Problem.{PosedProblem}
use Rattle.lls_answers.specs.declared.asked.Asked.{Asked}
use Rattle.lls_cli.specs.declared.task.Task.{Task}
use Rattle.lls_cli.specs.declared.task.Task.TheVariants as tasks
use Rattle.lls_answers.specs.Subject.{Subject, asked_with}
use Rattle.lls_answers.specs.Questions.{Question}
use Rattle.lls_answers.specs.Questions as questions
use Rattle.lls_cli.specs.declared.fault.Fault.{Fault}
use Rattle.lls_cli.specs.Question.{come_to, and_ask, made_of, formula_in, formula_limit, pattern_in, problem_asked, proof_limit, search_limit, subject_asked, with_room, Asks}
use Rattle.lls_cli.proofs.Asked.{AsksBy-parts}

same_question : {one two : Question} → ◌≡◌ {A = Result Question Fault} (Ok one) (Ok two) → one ≡ two
same_question is = cc

-- a question that bytes make which were read
some_bytes : (input : Result (List ℕ) Fault) (make : List ℕ → Question) (question : Question) → Ok question ≡ and_then input (λ bytes. Ok (make bytes)) → (bytes : List ℕ) × (question ≡ make bytes)
some_bytes (Ok bytes) make question is = (bytes, same_question is)
some_bytes (Err fault) make question is = absurd cc

-- the questions of a task
abbrev pub IsOf : Task → Question → Type 0
IsOf (tasks.Check source proof) question = (subject : Subject) × (bytes : List ℕ) × (question ≡ questions.Check subject bytes)
IsOf (tasks.Search source effort further) question = (subject : Subject) × (question ≡ questions.Search subject effort further.rle)
IsOf (tasks.Judge source pattern rle) question = (problem : PosedProblem) × (history : History) × (question ≡ questions.Judge problem history)
IsOf (tasks.Encode source) question = (subject : Subject) × (question ≡ questions.Encode subject)
IsOf (tasks.Print rule) question = question ≡ questions.Print rule
IsOf (tasks.Make seed size file effort) question = question ≡ questions.Make seed size file effort
IsOf (tasks.Extremal extreme source formulation effort further) question = (asked : Asked) × (question ≡ questions.Extremal extreme asked effort further.rle)
IsOf (tasks.Trim formula proof output) question = (cnf : Cnf) × (bytes : List ℕ) × (question ≡ questions.Trim cnf bytes output)

pub is_of : (task : Task) (files : Option Files) (question : Question) → Asks task files (Ok question) → IsOf task question
is_of (tasks.Check source proof) files question asked =
    let parts = AsksBy-parts files (subject_asked source) (λ subject. made_of proof proof_limit (λ bytes. Ok (questions.Check subject bytes))) question asked in
    let bytes = some_bytes parts.2.0 (λ bytes. questions.Check parts.0 bytes) question parts.2.2 in
    (parts.0, bytes.0, bytes.1)
is_of (tasks.Search source effort further) files question asked =
    let parts = AsksBy-parts files (subject_asked source) (λ subject. come_to (Ok (questions.Search subject effort further.rle))) question asked in
    (parts.0, same_question parts.2)
is_of (tasks.Judge source pattern rle) files question asked =
    let parts = AsksBy-parts files (problem_asked Ok source) (λ problem. and_ask (made_of pattern search_limit (pattern_in rle problem)) (λ history. come_to (Ok (questions.Judge problem history)))) question asked in
    let rest = AsksBy-parts files (made_of pattern search_limit (pattern_in rle parts.0)) (λ history. come_to (Ok (questions.Judge parts.0 history))) question parts.2 in
    (parts.0, rest.0, same_question rest.2)
is_of (tasks.Encode source) files question asked =
    let parts = AsksBy-parts files (subject_asked source) (λ subject. come_to (Ok (questions.Encode subject))) question asked in
    (parts.0, same_question parts.2)
is_of (tasks.Print rule) files question asked = same_question asked
is_of (tasks.Make seed size file effort) files question asked = same_question asked
is_of (tasks.Extremal extreme source formulation effort further) files question asked =
    let parts = AsksBy-parts files (problem_asked with_room source) (λ problem. come_to (Ok (questions.Extremal extreme (asked_with formulation problem) effort further.rle))) question asked in
    (asked_with formulation parts.0, same_question parts.2)
is_of (tasks.Trim formula proof output) files question asked =
    let parts = AsksBy-parts files (made_of formula formula_limit formula_in) (λ cnf. made_of proof proof_limit (λ bytes. Ok (questions.Trim cnf bytes output))) question asked in
    let bytes = some_bytes parts.2.0 (λ bytes. questions.Trim parts.0 bytes output) question parts.2.2 in
    (parts.0, bytes.0, bytes.1)
