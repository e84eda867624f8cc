-- What a search comes to is a right answer, and what that does.
use Rattle.std.proofs.Common.{◌≡◌, ◌≤◌, ◌+◌, ℕ, Bool, List, length, refl, sym, subst, arith, inl, inr}
use Rattle.lls_lit.specs.Formula.{Cnf}
use Rattle.lls_prooflog.specs.declared.step.Step.{Step}
use Rattle.lls_prooflog.specs.Log.{log_text}
use Rattle.lls_prooflog.specs.Spent.{IsSpent}
use Rattle.lls_counting.proofs.Logs.{budgets_decide, kept_budgets_decide}
use Rattle.lls_open.specs.Classes.{open_classes}
use Rattle.lls_open.specs.Formula.{open_formula}
use Rattle.lls_solver.specs.Searching.{IsRefutation, IsExhausted, KeepsAll}
use Rattle.lls_lrat.specs.Verdict.{Accepted, verdict}
use Rattle.lls_answers.specs.Questions as questions
use Rattle.lls_answers.specs.Subject.{Subject, subject_formula, formula_opened, HasSome, Shows, undecided_text}
use Rattle.lls_answers.specs.Subject as subjects
use Rattle.lls_answers.specs.declared.effort.Effort.{Effort}
use Rattle.lls_answers.specs.declared.answer_file.AnswerFile.{AnswerFile}
use Rattle.lls_answers.specs.declared.answer.Answer.{Answer}
use Rattle.lls_answers.specs.declared.asked.OpenAsked.{OpenAsked}
use Rattle.lls_answers.specs.declared.status.Status.TheVariants as statuses
use Rattle.lls_answers.specs.Evidence.{HasProof, HasSpentLog, IsEvidence}
use Rattle.lls_answers.specs.Shown.{ShowsNone}
use Rattle.lls_answers.specs.Meaning.{IsShort, leaves_log, shown, shown_behind}
use Rattle.lls_answers.specs.Finding.{IsFinding, found, absent, undecided, search_meaning}
use Rattle.lls_answers.specs.Answer.{IsAnswer}
use Rattle.lls_outside.specs.Moment.{ShelfMoment, files_at}
use Rattle.lls_answers.specs.Standing.{WroteFile}
use Rattle.lls_answers.proofs.Outputs.{IsLawful, WritesAtMost, none_ahead, one_name, log_left, proof_left}

-- a log that refutes the formula is evidence
pub evidence_of : (formula : Cnf) (effort : Effort) (steps : List Step) → KeepsAll effort.keep_all steps → IsRefutation formula effort.budget steps → IsEvidence formula effort steps
evidence_of formula effort steps kept refutation = record { refutes = refutation; all_kept = kept }

-- a spent budget needn't decide
pub short_by : (formula : Cnf) (effort : Effort) (steps : List Step) → KeepsAll effort.keep_all steps → IsSpent formula steps effort.budget → IsShort formula effort
short_by formula effort steps kept spent = record {
  deleting = budgets_decide formula steps effort.budget spent;
  keeping = λ keeps. kept_budgets_decide formula steps effort.budget spent (kept keeps);
}

pub short_of : (formula : Cnf) (effort : Effort) (steps : List Step) → KeepsAll effort.keep_all steps → IsExhausted formula effort.budget steps → IsShort formula effort
short_of formula effort steps kept exhausted = short_by formula effort steps kept exhausted.spent

-- the file of evidence has a proof
pub proof_of : (formula : Cnf) (effort : Effort) (steps : List Step) (file : AnswerFile) → file ≡ record { name = effort.proof; bytes = log_text steps } → IsEvidence formula effort steps
    → verdict formula file.bytes ≡ Accepted → HasProof formula effort file
proof_of formula effort steps file is evidence accepted = record {
  steps = steps;
  log = record { file_is = is; all_kept = evidence.all_kept };
  refutes = evidence.refutes;
  accepted = accepted;
}

-- and the file of a spent log has that log
pub log_by : (formula : Cnf) (effort : Effort) (steps : List Step) (file : AnswerFile) → file ≡ record { name = effort.proof; bytes = log_text steps } → KeepsAll effort.keep_all steps → IsSpent formula steps effort.budget
    → HasSpentLog formula effort file
log_by formula effort steps file is kept spent = record {
  steps = steps;
  log = record { file_is = is; all_kept = kept };
  spent = spent;
}

pub log_of : (formula : Cnf) (effort : Effort) (steps : List Step) (file : AnswerFile) → file ≡ record { name = effort.proof; bytes = log_text steps } → KeepsAll effort.keep_all steps → IsExhausted formula effort.budget steps
    → HasSpentLog formula effort file
log_of formula effort steps file is kept exhausted = log_by formula effort steps file is kept exhausted.spent

-- there is a variable for each cell, and for each open class
pub classes_fit : (asked : OpenAsked) → length asked.problem.posed.cells + length (open_classes asked.problem.rule asked.high) ≤ (formula_opened asked).vars
unfolding open_formula
classes_fit asked = omega arith

-- what is shown is there
some_of : (subject : Subject) (rle : Bool) (text : List ℕ) → Shows subject rle text → HasSome subject
some_of _ rle _ (subjects.pattern history is) = (history, is)
some_of _ rle _ (subjects.rule_and_pattern history rule is) = (history, (rule, is))
some_of _ rle _ (subjects.model values is) = (values, is)

pub found_answer : (subject : Subject) (effort : Effort) (rle : Bool) (text : List ℕ) (answer : Answer) → Shows subject rle text → answer ≡ shown statuses.Pattern text
    → IsAnswer (questions.Search subject effort rle) answer
found_answer subject effort rle text answer shows is =
    subst (IsAnswer (questions.Search subject effort rle)) (sym is) (record { answers = found text shows; holds = some_of subject rle text shows })

-- an absence that is shown
pub absent_answer : (subject : Subject) (effort : Effort) (rle : Bool) (answer : Answer) → ShowsNone subject effort answer → IsAnswer (questions.Search subject effort rle) answer
absent_answer subject effort rle answer shows =
    subst (IsAnswer (questions.Search subject effort rle)) (sym shows.answer_is) (record { answers = absent shows.file shows.proof; holds = shows.absent })

pub undecided_answer : (subject : Subject) (effort : Effort) (rle : Bool) (steps : List Step) (file : AnswerFile) (answer : Answer) → file ≡ record { name = effort.proof; bytes = log_text steps }
    → KeepsAll effort.keep_all steps → IsExhausted (subject_formula subject) effort.budget steps → answer ≡ shown_behind file statuses.Undecided (undecided_text subject)
    → IsAnswer (questions.Search subject effort rle) answer
undecided_answer subject effort rle steps file answer named kept exhausted is =
    subst (IsAnswer (questions.Search subject effort rle)) (sym is)
    (record { answers = undecided file (log_of (subject_formula subject) effort steps file named kept exhausted); holds = short_of (subject_formula subject) effort steps kept exhausted })

finding_writes : (subject : Subject) (effort : Effort) (rle : Bool) (answer : Answer) → IsFinding subject effort rle answer → WritesAtMost (search_meaning subject effort rle) answer
finding_writes subject effort rle _ (found text shows) = inl refl
finding_writes subject effort rle _ (absent file proof) =
    let name = one_name effort proof.steps file proof.log in inr (record { file = file; file_is = refl; at_status = name; at_failure = name })
finding_writes subject effort rle _ (undecided file log) =
    let name = one_name effort log.steps file log.log in inr (record { file = file; file_is = refl; at_status = name; at_failure = name })

finding_leaves : (subject : Subject) (effort : Effort) (rle : Bool) (answer : Answer) (before after : ShelfMoment) → IsFinding subject effort rle answer → WroteFile answer.file before after
    → leaves_log (subject_formula subject) effort answer.status (files_at after)
finding_leaves subject effort rle _ before after (found text shows) wrote = tt
finding_leaves subject effort rle _ before after (absent file proof) wrote = proof_left (subject_formula subject) effort file before after proof wrote
finding_leaves subject effort rle _ before after (undecided file log) wrote = log_left (subject_formula subject) effort file before after log wrote

pub search_lawful : (subject : Subject) (effort : Effort) (rle : Bool) → IsLawful (search_meaning subject effort rle)
search_lawful subject effort rle = record {
  writes = finding_writes subject effort rle;
  leaves = finding_leaves subject effort rle;
  ahead = λ status says. none_ahead status;
}
