-- What a search means.
use Rattle.std.specs.Prelude.{ℕ, Bool, List}
use Rattle.lls_answers.specs.declared.effort.Effort.{Effort}
use Rattle.lls_answers.specs.declared.answer_file.AnswerFile.{AnswerFile}
use Rattle.lls_answers.specs.declared.answer.Answer.{Answer}
use Rattle.lls_answers.specs.declared.status.Status.TheVariants as statuses
use Rattle.lls_answers.specs.Evidence.{HasProof, HasSpentLog}
use Rattle.lls_answers.specs.Subject.{Subject, subject_formula, HasNone, HasSome, Shows, none_text, undecided_text}
use Rattle.lls_answers.specs.Meaning.{Meaning, IsShort, answered_by, leaves_log, log_at, shown, shown_behind}

-- how a search ends: with what it found, or with a proof or a spent log of the formula in the file
pub data IsFinding (subject : Subject) (effort : Effort) (rle : Bool) : Answer → Type 0 where
  found : (text : List ℕ) → Shows subject rle text → IsFinding subject effort rle (shown statuses.Pattern text)
  absent : (file : AnswerFile) → HasProof (subject_formula subject) effort file → IsFinding subject effort rle (shown_behind file statuses.NoPattern (none_text subject))
  undecided : (file : AnswerFile) → HasSpentLog (subject_formula subject) effort file
      → IsFinding subject effort rle (shown_behind file statuses.Undecided (undecided_text subject))

-- it says that there is something, that there is nothing, or that the budget was short
abbrev pub search_meaning : Subject → Effort → Bool → Meaning
search_meaning subject effort rle = record (answered_by (IsFinding subject effort rle)) {
  some = HasSome subject;
  none = HasNone subject;
  short = IsShort (subject_formula subject) effort;
  writes = λ status. log_at status effort.proof;
  leaves = leaves_log (subject_formula subject) effort;
}
