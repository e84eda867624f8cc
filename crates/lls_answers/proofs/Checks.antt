-- What a check of a proof and a judging of a history come to are right answers, and what these do.
use Rattle.std.proofs.Common.{◌≡◌, ◌≢◌, ℕ, List, Option, Result, Ok, Err, refl, sym, subst, inl, None}
use Rattle.lls_lit.specs.Formula.{IsUnsatisfiable}
use Rattle.lls_base.specs.Shelf.{Files}
use Rattle.lls_grid.specs.History.{History}
use Rattle.lls_lrat.specs.declared.error.CheckError.{CheckError}
use Rattle.lls_lrat.specs.Verdict.{answer_of, verdict}
use Rattle.lls_problem.specs.declared.judgement.Judgement.{Judgement}
use Rattle.lls_problem.specs.declared.judgement.Judgement.TheVariants as judgements
use Rattle.lls_problem.specs.Problem.{PosedProblem}
use Rattle.lls_problem.specs.Judgement.{IsJudgement}
use Rattle.lls_problem.specs.Solution.{IsSolution}
use Rattle.lls_problem.proofs.Plane.{plane_law}
use Rattle.lls_answers.specs.Questions as questions
use Rattle.lls_answers.specs.Subject.{Subject, subject_formula, HasNone}
use Rattle.lls_answers.specs.Subject as subjects
use Rattle.lls_answers.specs.declared.answer.Answer.{Answer}
use Rattle.lls_answers.specs.declared.status.Status.{Status}
use Rattle.lls_answers.specs.declared.status.Status.TheVariants as statuses
use Rattle.lls_answers.specs.Meaning.{leaves_none}
use Rattle.lls_answers.specs.Checks.{check_answer, check_meaning, judge_answer, judge_meaning}
use Rattle.lls_answers.specs.Answer.{Holds, IsAnswer}
use Rattle.lls_outside.specs.Moment.{files_at}
use Rattle.lls_answers.proofs.Outputs.{IsLawful, none_ahead}

-- a status that needs no more than a refutation does, but where the proof is accepted
holds_as : (subject : Subject) (proof : List ℕ) (status : Status) → (IsUnsatisfiable (subject_formula subject) → HasNone subject)
    → Holds (questions.Check (subjects.Formula (subject_formula subject)) proof) status → Holds (questions.Check subject proof) status
holds_as subject proof statuses.Done none holds = (holds.0, none holds.1)
holds_as subject proof statuses.Refused none holds = holds
holds_as subject proof statuses.Words none holds = holds
holds_as subject proof statuses.Content none holds = holds
holds_as subject proof statuses.Outside none holds = holds
holds_as subject proof statuses.Memory none holds = holds
holds_as subject proof statuses.Limit none holds = holds
holds_as subject proof statuses.Pattern none holds = holds
holds_as subject proof statuses.NoPattern none holds = holds
holds_as subject proof statuses.Undecided none holds = holds

-- what refutes a subject's formula checks the subject
pub checked_answer : (subject : Subject) (proof : List ℕ) (answer : Answer) → (IsUnsatisfiable (subject_formula subject) → HasNone subject)
    → IsAnswer (questions.Check (subjects.Formula (subject_formula subject)) proof) answer → IsAnswer (questions.Check subject proof) answer
checked_answer subject proof answer none right = record { answers = right.answers; holds = holds_as subject proof answer.status none right.holds }

holds_judged : (problem : PosedProblem) (history : History) (judgement : Judgement) → (judgement ≡ judgements.Meets → IsSolution problem history)
    → (judgement ≢ judgements.Meets → IsSolution problem history → ⊥) → Holds (questions.Judge problem history) (judge_answer judgement).status
holds_judged problem history judgements.Meets meets broken = record { solution = meets refl; law = plane_law problem history (meets refl) }
holds_judged problem history judgements.Size meets broken = broken (λ is. cc)
holds_judged problem history (judgements.Cell t y x) meets broken = broken (λ is. cc)
holds_judged problem history (judgements.Name t y x) meets broken = broken (λ is. cc)
holds_judged problem history (judgements.Symmetry t y x) meets broken = broken (λ is. cc)
holds_judged problem history (judgements.Background t) meets broken = broken (λ is. cc)
holds_judged problem history (judgements.Moved t y x) meets broken = broken (λ is. cc)
holds_judged problem history (judgements.Rule t y x) meets broken = broken (λ is. cc)
holds_judged problem history (judgements.Population t n) meets broken = broken (λ is. cc)
holds_judged problem history judgements.Same meets broken = broken (λ is. cc)
holds_judged problem history (judgements.Shorter d) meets broken = broken (λ is. cc)
holds_judged problem history (judgements.Listed n) meets broken = broken (λ is. cc)

-- the answer of a judgement is right
pub judged_answer : (problem : PosedProblem) (history : History) (judgement : Judgement) (answer : Answer) → IsJudgement problem history judgement
    → (judgement ≡ judgements.Meets → IsSolution problem history) → (judgement ≢ judgements.Meets → IsSolution problem history → ⊥)
    → answer ≡ judge_answer judgement → IsAnswer (questions.Judge problem history) answer
judged_answer problem history judgement answer is meets broken made = record {
  answers = (judgement, is, made);
  holds = subst (λ (a : Answer). Holds (questions.Judge problem history) a.status) (sym made) (holds_judged problem history judgement meets broken);
}

-- an answer that writes no file, and whose status leaves none
abbrev IsPlain : Answer → Type 0
IsPlain answer = (answer.file ≡ None) × ((files : Option Files) → leaves_none answer.status files)

check_plain : (verdict : Result (Unit {0}) CheckError) → IsPlain (check_answer verdict)
check_plain (Ok accepted) = (refl, λ files. tt)
check_plain (Err error) = (refl, λ files. tt)

judge_plain : (judgement : Judgement) → IsPlain (judge_answer judgement)
judge_plain judgements.Meets = (refl, λ files. tt)
judge_plain judgements.Size = (refl, λ files. tt)
judge_plain (judgements.Cell t y x) = (refl, λ files. tt)
judge_plain (judgements.Name t y x) = (refl, λ files. tt)
judge_plain (judgements.Symmetry t y x) = (refl, λ files. tt)
judge_plain (judgements.Background t) = (refl, λ files. tt)
judge_plain (judgements.Moved t y x) = (refl, λ files. tt)
judge_plain (judgements.Rule t y x) = (refl, λ files. tt)
judge_plain (judgements.Population t n) = (refl, λ files. tt)
judge_plain judgements.Same = (refl, λ files. tt)
judge_plain (judgements.Shorter d) = (refl, λ files. tt)
judge_plain (judgements.Listed n) = (refl, λ files. tt)

pub check_lawful : (subject : Subject) (proof : List ℕ) → IsLawful (check_meaning subject proof)
check_lawful subject proof =
    let plain = check_plain (answer_of (verdict (subject_formula subject) proof)) in
    record {
      writes = λ answer right. inl (subst IsPlain (sym right) plain).0;
      leaves = λ answer before after right wrote. (subst IsPlain (sym right) plain).1 (files_at after);
      ahead = λ status says. none_ahead status;
    }

pub judge_lawful : (problem : PosedProblem) (history : History) → IsLawful (judge_meaning problem history)
judge_lawful problem history = record {
  writes = λ answer right. inl (subst IsPlain (sym right.2) (judge_plain right.0)).0;
  leaves = λ answer before after right wrote. (subst IsPlain (sym right.2) (judge_plain right.0)).1 (files_at after);
  ahead = λ status says. none_ahead status;
}
