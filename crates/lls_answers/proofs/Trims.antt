-- What a trim comes to is a right answer, and what that does.
use Rattle.std.proofs.Common.{◌≡◌, ℕ, ◌+◌, ◌++◌, true, List, [], ◌∷◌, map, length, Some, Ok, Err, refl, sym, ap, subst, ◌∙◌, inl, inr}
use Rattle.std.specs.Prelude.{codes}
use Rattle.std.specs.List.{enumerate_from, list_all}
use Rattle.lls_lit.specs.Formula.{Cnf}
use Rattle.lls_prooflog.specs.declared.step.Step.{Step}
use Rattle.lls_prooflog.specs.Log.{ReadsAs, log_text}
use Rattle.lls_prooflog.specs.Spent.{EachStep, IsGood, is_addition, log_start}
use Rattle.lls_prooflog.specs.Steps.{are_accepted}
use Rattle.lls_prooflog.specs.UnitWalk.{numbered}
use Rattle.lls_prooflog.proofs.Soundness.{unsatisfiable_by_propagation}
use Rattle.lls_lrat.specs.declared.error.CheckError.{CheckError}
use Rattle.lls_lrat.specs.FaultText.{check_error_text}
use Rattle.lls_lrat.specs.Verdict.{Accepted, answer_of, verdict}
use Rattle.lls_lrat.proofs.Logs.{accepted_log, verdict_of_lines}
use Rattle.lls_trim.specs.declared.error.TrimError.TheVariants.{RatStep}
use Rattle.lls_trim.specs.declared.trimming.Trimming.{Trimming}
use Rattle.lls_trim.specs.FaultText.{trim_error_text}
use Rattle.lls_trim.specs.Placed.{placed_from, steps_of_log, steps_of_text}
use Rattle.lls_trim.specs.Needed.{IsFirstRat, NeedsNoRat}
use Rattle.lls_trim.specs.Trimmed.{IsTrimmed}
use Rattle.lls_trim.specs.Trimming.{IsTrimmingOf}
use Rattle.lls_answers.specs.Questions as questions
use Rattle.lls_answers.specs.declared.answer.Answer.{Answer}
use Rattle.lls_answers.specs.declared.answer_file.AnswerFile.{AnswerFile}
use Rattle.lls_answers.specs.declared.status.Status.TheVariants as statuses
use Rattle.lls_answers.specs.Meaning.{said, shown_behind}
use Rattle.lls_answers.specs.Trimming.{HasTrimmed, inferences_of_text, kept_text, IsTrim, kept, not_accepted, by_pivot, leaves_trimmed, trim_meaning}
use Rattle.lls_answers.specs.Answer.{IsAnswer}
use Rattle.lls_outside.specs.Moment.{ShelfMoment, files_at}
use Rattle.lls_answers.specs.Standing.{WroteFile}
use Rattle.lls_answers.proofs.Outputs.{IsLawful, WritesAtMost, none_ahead, of_written}

-- a text that is read as steps has a step on each line
placed_from-steps : (line : ℕ) (steps : List Step) → placed_from line (map (λ step. Ok (Some step)) steps) ≡ enumerate_from line steps
placed_from-steps line [] = refl
placed_from-steps line (step ∷ steps) = ap (λ rest. (line, step) ∷ rest) (placed_from-steps (line + 1) steps)

steps_of_text-read : (text : List ℕ) (steps : List Step) → ReadsAs text steps → steps_of_text text ≡ steps_of_log steps
steps_of_text-read text steps read = ap (placed_from 1) read ∙ placed_from-steps 1 steps

has_trimmed : (formula : Cnf) (proof output : List ℕ) (trimming : Trimming) (file : AnswerFile) → file ≡ record { name = output; bytes = log_text trimming.log.steps } → ReadsAs file.bytes trimming.log.steps
    → IsTrimmingOf formula (steps_of_text proof) trimming → HasTrimmed formula proof output file
has_trimmed formula proof output trimming file named read left =
    let steps = trimming.log.steps in
    record {
      steps = steps;
      file_is = named;
      trimmed = left.trimmed;
      accepted = verdict_of_lines formula steps file.bytes read ∙ accepted_log formula steps left.accepted;
      additions = left.additions;
      sublist = left.sublist;
      used = left.used;
      empty = left.empty;
      again = subst (λ placed. IsTrimmed formula placed steps) (sym (steps_of_text-read file.bytes steps read)) left.again;
    }

pub kept_answer : (formula : Cnf) (proof output : List ℕ) (trimming : Trimming) (file : AnswerFile) (answer : Answer) → file ≡ record { name = output; bytes = log_text trimming.log.steps } → ReadsAs file.bytes trimming.log.steps
    → IsTrimmingOf formula (steps_of_text proof) trimming → verdict formula proof ≡ Accepted → NeedsNoRat (inferences_of_text formula proof)
    → answer ≡ shown_behind file statuses.Done (kept_text (length trimming.log.steps) (length (inferences_of_text formula proof))) → IsAnswer (questions.Trim formula proof output) answer
unfolding has_trimmed
kept_answer formula proof output trimming file answer named read left accepted none is =
    subst (IsAnswer (questions.Trim formula proof output)) (sym is) (record {
      answers = kept file (has_trimmed formula proof output trimming file named read left);
      holds = (accepted, none, unsatisfiable_by_propagation formula trimming.log.steps left.good left.accepted);
    })

pub not_accepted_answer : (formula : Cnf) (proof output : List ℕ) (error : CheckError) (answer : Answer) → answer_of (verdict formula proof) ≡ Err error
    → answer ≡ said statuses.Refused (codes "refused: " ++ check_error_text error) → IsAnswer (questions.Trim formula proof output) answer
not_accepted_answer formula proof output error answer bad is =
    subst (IsAnswer (questions.Trim formula proof output)) (sym is) (record {
      answers = not_accepted error bad;
      holds = λ accepted none.
          let both : Ok tt ≡ Err error = sym (ap answer_of accepted) ∙ bad in
          absurd cc;
    })

pub by_pivot_answer : (formula : Cnf) (proof output : List ℕ) (line : ℕ) (answer : Answer) → verdict formula proof ≡ Accepted → IsFirstRat (inferences_of_text formula proof) line
    → answer ≡ said statuses.Refused (codes "refused: " ++ trim_error_text (RatStep line)) → IsAnswer (questions.Trim formula proof output) answer
by_pivot_answer formula proof output line answer accepted first is =
    subst (IsAnswer (questions.Trim formula proof output)) (sym is) (record {
      answers = by_pivot line accepted first;
      holds = λ fine none. none first.place line first.rat;
    })

trim_writes : (formula : Cnf) (proof output : List ℕ) (answer : Answer) → IsTrim formula proof output answer → WritesAtMost (trim_meaning formula proof output) answer
trim_writes formula proof output _ (kept file has) =
    let name = ap (λ (f : AnswerFile). f.name ∷ []) (sym has.file_is) in inr (record { file = file; file_is = refl; at_status = name; at_failure = name })
trim_writes formula proof output _ (not_accepted error is) = inl refl
trim_writes formula proof output _ (by_pivot line accepted first) = inl refl

trim_leaves : (formula : Cnf) (proof output : List ℕ) (answer : Answer) (before after : ShelfMoment) → IsTrim formula proof output answer → WroteFile answer.file before after
    → leaves_trimmed formula proof output answer.status (files_at after)
trim_leaves formula proof output _ before after (kept file has) wrote =
    of_written (HasTrimmed formula proof output) file output before after (ap (λ (f : AnswerFile). f.name) has.file_is) has wrote
trim_leaves formula proof output _ before after (not_accepted error is) wrote = tt
trim_leaves formula proof output _ before after (by_pivot line accepted first) wrote = tt

pub trim_lawful : (formula : Cnf) (proof output : List ℕ) → IsLawful (trim_meaning formula proof output)
trim_lawful formula proof output = record {
  writes = trim_writes formula proof output;
  leaves = trim_leaves formula proof output;
  ahead = λ status says. none_ahead status;
}
