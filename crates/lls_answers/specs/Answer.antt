-- What each question means, and which answers to it are right.
use Rattle.std.specs.Prelude.{◌≡◌, Option}
use Rattle.lls_base.specs.Shelf.{Files}
use Rattle.lls_cnf.specs.DimacsText.{dimacs_text}
use Rattle.lls_hensel.specs.Printing.{rule_text}
use Rattle.lls_answers.specs.Questions.{Question}
use Rattle.lls_answers.specs.Questions as questions
use Rattle.lls_answers.specs.declared.answer_file.AnswerFile.{AnswerFile}
use Rattle.lls_answers.specs.declared.answer.Answer.{Answer}
use Rattle.lls_answers.specs.declared.status.Status.{Status}
use Rattle.lls_answers.specs.declared.status.Status.TheVariants as statuses
use Rattle.lls_answers.specs.Subject.{subject_formula}
use Rattle.lls_answers.specs.Meaning.{Meaning, answered_by, said, says, shown}
use Rattle.lls_answers.specs.Checks.{check_meaning, judge_meaning}
use Rattle.lls_answers.specs.Finding.{search_meaning}
use Rattle.lls_answers.specs.Extremal.{extremal_meaning}
use Rattle.lls_answers.specs.Making.{make_meaning}
use Rattle.lls_answers.specs.Trimming.{trim_meaning}

-- a text that is asked for is the yes
abbrev pub print_meaning : Answer → Meaning
print_meaning text = record (answered_by (λ answer. answer ≡ text)) { yes = Unit {0} }

abbrev pub meaning_of : Question → Meaning
meaning_of (questions.Check subject proof) = check_meaning subject proof
meaning_of (questions.Search subject effort rle) = search_meaning subject effort rle
meaning_of (questions.Judge problem history) = judge_meaning problem history
meaning_of (questions.Encode subject) = print_meaning (shown statuses.Done (dimacs_text (subject_formula subject)))
meaning_of (questions.Print rule) = print_meaning (said statuses.Done (rule_text rule))
meaning_of (questions.Make seed size name effort) = make_meaning seed size name effort
meaning_of (questions.Extremal extreme asked effort rle) = extremal_meaning extreme asked effort rle
meaning_of (questions.Trim formula proof output) = trim_meaning formula proof output

-- what is so where the answer is yes, no, that there is something, that there is nothing, and that a budget was spent
abbrev pub YesHolds : Question → Type 0
YesHolds question = (meaning_of question).yes

abbrev pub NoHolds : Question → Type 0
NoHolds question = (meaning_of question).no

abbrev pub SomeHolds : Question → Type 0
SomeHolds question = (meaning_of question).some

abbrev pub NoneHolds : Question → Type 0
NoneHolds question = (meaning_of question).none

abbrev pub HasShortBudget : Question → Type 0
HasShortBudget question = (meaning_of question).short

-- what a status says of a question
abbrev pub Holds : Question → Status → Type 0
Holds question status = says (meaning_of question) status

-- what stands in files behind an answer of that status
abbrev pub Leaves : Status → Option Files → Question → Type 0
Leaves status files question = (meaning_of question).leaves status files

-- the file that is written before the answer is looked for: a made problem's search file, and no other
abbrev pub ahead_of : Question → Option AnswerFile
ahead_of question = (meaning_of question).ahead

-- an answer is right, and what its status says holds
pub record IsAnswer (question : Question) (answer : Answer) : Type 0 where
  pub answers : (meaning_of question).answers answer
  pub holds : Holds question answer.status
