-- What a check of a proof means, and a judging of a history.
use Rattle.std.specs.Prelude.{◌≡◌, ℕ, ◌++◌, List, codes, Some, Result, Ok, Err}
use Rattle.lls_lit.specs.Formula.{Cnf}
use Rattle.lls_grid.specs.History.{History}
use Rattle.lls_problem.specs.Problem.{PosedProblem}
use Rattle.lls_problem.specs.Solution.{IsSolution}
use Rattle.lls_problem.specs.declared.judgement.Judgement.{Judgement}
use Rattle.lls_problem.specs.declared.judgement.Judgement.TheVariants as judgements
use Rattle.lls_problem.specs.Judgement.{IsJudgement}
use Rattle.lls_problem.specs.Texts.{judgement_text}
use Rattle.lls_lrat.specs.declared.error.CheckError.{CheckError}
use Rattle.lls_lrat.specs.FaultText.{check_error_text}
use Rattle.lls_lrat.specs.Feeding.{FeedState, begun, fed}
use Rattle.lls_lrat.specs.Verdict.{Accepted, verdict, answer_of}
use Rattle.lls_answers.specs.declared.answer.Answer.{Answer}
use Rattle.lls_answers.specs.declared.status.Status.TheVariants as statuses
use Rattle.lls_answers.specs.Subject.{Subject, subject_formula, HasNone, IsFound}
use Rattle.lls_answers.specs.Meaning.{Meaning, answered_by, said}

-- the answer of a proof that is accepted, or refused with its first fault
abbrev pub check_answer : Result (Unit {0}) CheckError → Answer
check_answer (Ok accepted) = said statuses.Done (codes "accepted")
check_answer (Err error) = said statuses.Refused (codes "refused: " ++ check_error_text error)

-- yes says that the proof is accepted, so there is nothing to find; no says that it isn't accepted
abbrev pub check_meaning : Subject → List ℕ → Meaning
check_meaning subject proof = record (answered_by (λ answer. answer ≡ check_answer (answer_of (verdict (subject_formula subject) proof)))) {
  yes = (verdict (subject_formula subject) proof ≡ Accepted) × HasNone subject;
  no = verdict (subject_formula subject) proof ≡ Accepted → ⊥;
}

-- the answer of a history that is judged: the first demand that it breaks, and where
abbrev pub judge_answer : Judgement → Answer
judge_answer judgements.Meets = said statuses.Done (codes "meets")
judge_answer judgement = said statuses.Refused (codes "broken: " ++ judgement_text judgement)

-- yes says that the history is a solution, which keeps the rule on the whole plane where it has to; no says that it is none
abbrev pub judge_meaning : PosedProblem → History → Meaning
judge_meaning problem history = record (answered_by (λ answer. (judgement : Judgement) × IsJudgement problem history judgement × (answer ≡ judge_answer judgement))) {
  yes = IsFound problem history;
  no = IsSolution problem history → ⊥;
}

-- the check of a formula's proof of which these bytes have come
abbrev pub fed_with : Cnf → List ℕ → FeedState
fed_with formula bytes = record { formula = formula; feeding = Some (fed (begun formula) bytes) }
