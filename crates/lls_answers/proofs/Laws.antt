-- What the right answers to each question do to files.
use Rattle.std.proofs.Common.{◌≡◌, ◌∙◌, refl, sym, ap, subst, inl}
use Rattle.lls_answers.specs.Questions.{Question}
use Rattle.lls_answers.specs.Questions as questions
use Rattle.lls_answers.specs.declared.answer.Answer.{Answer}
use Rattle.lls_answers.specs.declared.status.Status.TheVariants as statuses
use Rattle.lls_answers.specs.Meaning.{leaves_none}
use Rattle.lls_answers.specs.Answer.{meaning_of, print_meaning}
use Rattle.lls_outside.specs.Moment.{files_at}
use Rattle.lls_answers.proofs.Outputs.{IsLawful, WritesAtMost, none_ahead}
use Rattle.lls_answers.proofs.Checks.{check_lawful, judge_lawful}
use Rattle.lls_answers.proofs.Searches.{search_lawful}
use Rattle.lls_answers.proofs.ExtremalAnswers.{extremal_lawful}
use Rattle.lls_answers.proofs.Makings.{make_lawful}
use Rattle.lls_answers.proofs.Trims.{trim_lawful}

-- a text that is asked for has no file
print_lawful : (text : Answer) → WritesAtMost (print_meaning text) text → text.status ≡ statuses.Done → IsLawful (print_meaning text)
print_lawful text none done = record {
  writes = λ answer right. subst (WritesAtMost (print_meaning text)) (sym right) none;
  leaves = λ answer before after right wrote. subst (λ s. leaves_none s (files_at after)) (sym (ap (λ (a : Answer). a.status) right ∙ done)) tt;
  ahead = λ status says. none_ahead status;
}

pub lawful : (question : Question) → IsLawful (meaning_of question)
lawful (questions.Check subject proof) = check_lawful subject proof
lawful (questions.Search subject effort rle) = search_lawful subject effort rle
lawful (questions.Judge problem history) = judge_lawful problem history
lawful (questions.Encode subject) = print_lawful _ (inl refl) refl
lawful (questions.Print rule) = print_lawful _ (inl refl) refl
lawful (questions.Make seed size name effort) = make_lawful seed size name effort
lawful (questions.Extremal extreme asked effort rle) = extremal_lawful extreme asked effort rle
lawful (questions.Trim formula proof output) = trim_lawful formula proof output
