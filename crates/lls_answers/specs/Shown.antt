-- For private contracts alone: the answer that there is nothing, with a proof in the file.
use Rattle.std.specs.Prelude.{◌≡◌}
use Rattle.lls_answers.specs.declared.answer.Answer.{Answer}
use Rattle.lls_answers.specs.declared.answer_file.AnswerFile.{AnswerFile}
use Rattle.lls_answers.specs.declared.effort.Effort.{Effort}
use Rattle.lls_answers.specs.declared.status.Status.TheVariants as statuses
use Rattle.lls_answers.specs.Evidence.{HasProof}
use Rattle.lls_answers.specs.Meaning.{shown_behind}
use Rattle.lls_answers.specs.Subject.{Subject, subject_formula, HasNone, none_text}

-- there is nothing, behind the file of the proof
pub record ShowsNone (subject : Subject) (effort : Effort) (answer : Answer) : Type 0 where
  pub file : AnswerFile
  pub answer_is : answer ≡ shown_behind file statuses.NoPattern (none_text subject)
  pub proof : HasProof (subject_formula subject) effort file
  pub absent : HasNone subject
