-- What the search of a made problem comes to is a right answer, and what that does.
use Rattle.std.proofs.Common.{◌≡◌, ℕ, List, ◌∷◌, [], length, refl, sym, ap, subst, ◌∙◌, inl, inr}
use Rattle.std.specs.Prelude.{codes}
use Rattle.lls_lit.specs.Formula.{Cnf}
use Rattle.lls_problem.specs.Solution.{IsSolution}
use Rattle.lls_gen.specs.declared.making.Made.{Made}
use Rattle.lls_gen.specs.Made.{made, made_problem}
use Rattle.lls_problem.specs.declared.form.Form.TheVariants.{Rows}
use Rattle.lls_encode.specs.Formula.{formula_of}
use Rattle.lls_prooflog.specs.declared.step.Step.{Step}
use Rattle.lls_prooflog.specs.Log.{log_text}
use Rattle.lls_solver.specs.Searching.{IsExhausted, KeepsAll}
use Rattle.lls_answers.specs.Questions as questions
use Rattle.lls_answers.specs.declared.effort.Effort.{Effort}
use Rattle.lls_answers.specs.declared.answer_file.AnswerFile.{AnswerFile}
use Rattle.lls_answers.specs.declared.answer.Answer.{Answer}
use Rattle.lls_answers.specs.declared.status.Status.{Status}
use Rattle.lls_answers.specs.declared.status.Status.TheVariants as statuses
use Rattle.lls_answers.specs.Making.{summary_of, summary_text, IsMaking, solved, unsolved, make_meaning}
use Rattle.lls_answers.specs.Meaning.{leaves_log, says, shown, shown_behind, search_file_at}
use Rattle.lls_answers.specs.Answer.{IsAnswer}
use Rattle.lls_outside.specs.Moment.{ShelfMoment, files_at}
use Rattle.lls_answers.specs.Standing.{WroteFile}
use Rattle.lls_answers.proofs.Outputs.{IsLawful, WritesAtMost, log_left, one_name}
use Rattle.lls_answers.proofs.Searches.{log_of, short_of}

-- a made problem has two generations
pub two_generations : (seed size : ℕ) (pair : Made) → pair ≡ made seed size → IsSolution pair.problem pair.history → length pair.history ≡ 2
unfolding made_problem
two_generations seed size pair is solution =
    let file : pair.problem.posed.generations ≡ 2 = ap (λ (m : Made). m.problem.posed.generations) is in
    solution.sizes.0 ∙ file

-- what is said of a pair is said of what the seed and the size make
summary-made : (seed size : ℕ) (pair : Made) (formula : Cnf) (answer : List ℕ) → pair ≡ made seed size → formula ≡ formula_of pair.problem Rows
    → summary_of pair formula answer ≡ summary_text seed size answer
summary-made seed size pair formula answer is made_of =
    ap (λ f. summary_of pair f answer) made_of ∙ ap (λ (m : Made). summary_of m (formula_of m.problem Rows) answer) is

pub solved_answer : (seed size : ℕ) (name : List ℕ) (effort : Effort) (pair : Made) (formula : Cnf) (answer : Answer) → pair ≡ made seed size → formula ≡ formula_of pair.problem Rows
    → IsSolution pair.problem pair.history → answer ≡ shown statuses.Pattern (summary_of pair formula (codes "pattern")) → IsAnswer (questions.Make seed size name effort) answer
solved_answer seed size name effort pair formula answer is made_of solution given =
    let made_solution : IsSolution (made seed size).problem (made seed size).history = subst (λ (m : Made). IsSolution m.problem m.history) is solution in
    subst (IsAnswer (questions.Make seed size name effort)) (sym (given ∙ ap (shown statuses.Pattern) (summary-made seed size pair formula (codes "pattern") is made_of)))
    (record { answers = solved; holds = ((made seed size).history, made_solution) })

pub unsolved_answer : (seed size : ℕ) (name : List ℕ) (effort : Effort) (pair : Made) (formula : Cnf) (steps : List Step) (file : AnswerFile) (answer : Answer) → pair ≡ made seed size
    → formula ≡ formula_of pair.problem Rows → file ≡ record { name = effort.proof; bytes = log_text steps } → KeepsAll effort.keep_all steps → IsExhausted formula effort.budget steps
    → answer ≡ shown_behind file statuses.Undecided (summary_of pair formula (codes "undecided")) → IsAnswer (questions.Make seed size name effort) answer
unsolved_answer seed size name effort pair formula steps file answer is made_of named kept exhausted given =
    let its : formula ≡ formula_of (made_problem seed size) Rows = made_of ∙ ap (λ (m : Made). formula_of m.problem Rows) is in
    let spent : IsExhausted (formula_of (made_problem seed size) Rows) effort.budget steps = subst (λ (f : Cnf). IsExhausted f effort.budget steps) its exhausted in
    subst (IsAnswer (questions.Make seed size name effort)) (sym (given ∙ ap (shown_behind file statuses.Undecided) (summary-made seed size pair formula (codes "undecided") is made_of)))
    (record { answers = unsolved file (log_of (formula_of (made_problem seed size) Rows) effort steps file named kept spent); holds = short_of (formula_of (made_problem seed size) Rows) effort steps kept spent })

making_writes : (seed size : ℕ) (name : List ℕ) (effort : Effort) (answer : Answer) → IsMaking seed size effort answer → WritesAtMost (make_meaning seed size name effort) answer
making_writes seed size name effort _ solved = inl refl
making_writes seed size name effort _ (unsolved file log) =
    let named = one_name effort log.steps file log.log in inr (record { file = file; file_is = refl; at_status = named; at_failure = named })

making_leaves : (seed size : ℕ) (effort : Effort) (answer : Answer) (before after : ShelfMoment) → IsMaking seed size effort answer → WroteFile answer.file before after
    → leaves_log (formula_of (made_problem seed size) Rows) effort answer.status (files_at after)
making_leaves seed size effort _ before after solved wrote = tt
making_leaves seed size effort _ before after (unsolved file log) wrote = log_left (formula_of (made_problem seed size) Rows) effort file before after log wrote

-- the statuses of its answers
making_ahead : (seed size : ℕ) (name : List ℕ) (effort : Effort) (status : Status) (other : List ℕ) → says (make_meaning seed size name effort) status → search_file_at status other ≡ other ∷ []
making_ahead seed size name effort statuses.Pattern other holds = refl
making_ahead seed size name effort statuses.Undecided other holds = refl
making_ahead seed size name effort statuses.Done other holds = absurd holds
making_ahead seed size name effort statuses.Refused other holds = absurd holds
making_ahead seed size name effort statuses.Words other holds = absurd holds
making_ahead seed size name effort statuses.Content other holds = absurd holds
making_ahead seed size name effort statuses.Outside other holds = absurd holds
making_ahead seed size name effort statuses.Memory other holds = absurd holds
making_ahead seed size name effort statuses.Limit other holds = absurd holds
making_ahead seed size name effort statuses.NoPattern other holds = absurd holds

pub make_lawful : (seed size : ℕ) (name : List ℕ) (effort : Effort) → IsLawful (make_meaning seed size name effort)
make_lawful seed size name effort = record {
  writes = making_writes seed size name effort;
  leaves = making_leaves seed size effort;
  ahead = λ status says file is. making_ahead seed size name effort status file.name says;
}
