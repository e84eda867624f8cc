-- A trim: what its file has, and what it says.
use Rattle.std.specs.Prelude.{◌≡◌, ℕ, true, ◌++◌, List, [], ◌∷◌, codes, decimal, length, map, Option, Err}
use Rattle.std.specs.List.{list_all}
use Rattle.lls_base.specs.Shelf.{Files}
use Rattle.lls_lit.specs.Formula.{Cnf, IsUnsatisfiable}
use Rattle.lls_prooflog.specs.declared.step.Step.{Step}
use Rattle.lls_prooflog.specs.Log.{log_text}
use Rattle.lls_prooflog.specs.Spent.{is_addition}
use Rattle.lls_lrat.specs.declared.error.CheckError.{CheckError}
use Rattle.lls_lrat.specs.Verdict.{Accepted, verdict, answer_of}
use Rattle.lls_trim.specs.declared.error.TrimError.TheVariants.{RatStep}
use Rattle.lls_trim.specs.FaultText.{trim_error_text}
use Rattle.lls_trim.specs.Needed.{IsFirstRat, NeedsNoRat}
use Rattle.lls_trim.specs.Placed.{steps_of_text}
use Rattle.lls_trim.specs.Inferences.{Inference, inferences_of}
use Rattle.lls_trim.specs.Kept.{AreUsed, EndsEmpty, IsSublist, clauses_added}
use Rattle.lls_trim.specs.Trimmed.{IsTrimmed}
use Rattle.lls_answers.specs.declared.answer_file.AnswerFile.{AnswerFile}
use Rattle.lls_answers.specs.declared.answer.Answer.{Answer}
use Rattle.lls_answers.specs.declared.status.Status.{Status}
use Rattle.lls_answers.specs.declared.status.Status.TheVariants as statuses
use Rattle.lls_answers.specs.Checks.{check_answer}
use Rattle.lls_answers.specs.Meaning.{Meaning, OfFile, answered_by, leaves_none, said, shown_behind}

-- the additions of a proof, up to and with the first empty one, each with what it comes from
abbrev pub inferences_of_text : Cnf → List ℕ → List Inference
inferences_of_text formula proof = inferences_of formula (steps_of_text proof)

-- the file has what the empty clause of the proof rests on. That is an accepted proof without a deletion, whose clauses are some of the
-- given ones; each but the last is of use, and the last alone is empty; and nothing can be trimmed from it
pub record HasTrimmed (formula : Cnf) (proof output : List ℕ) (file : AnswerFile) : Type 0 where
  pub steps : List Step
  pub file_is : file ≡ record { name = output; bytes = log_text steps }
  pub trimmed : IsTrimmed formula (steps_of_text proof) steps
  pub accepted : verdict formula file.bytes ≡ Accepted
  pub additions : list_all is_addition steps ≡ true
  pub sublist : IsSublist (clauses_added steps) (clauses_added (map (λ placed. placed.1) (steps_of_text proof)))
  pub used : AreUsed steps
  pub empty : EndsEmpty steps
  pub again : IsTrimmed formula (steps_of_text file.bytes) steps

-- how many additions are kept, of how many, as a line
abbrev pub kept_text : ℕ → ℕ → List ℕ
kept_text kept given = codes "kept " ++ decimal kept ++ codes " of " ++ decimal given ++ codes "\n"

-- how a trim ends: with what the empty clause rests on in the file; with the first fault of a proof that isn't accepted; or with the first
-- addition that it rests on and that isn't by unit propagation
pub data IsTrim (formula : Cnf) (proof output : List ℕ) : Answer → Type 0 where
  kept : (file : AnswerFile) (has : HasTrimmed formula proof output file)
      → IsTrim formula proof output (shown_behind file statuses.Done (kept_text (length has.steps) (length (inferences_of_text formula proof))))
  not_accepted : (error : CheckError) → answer_of (verdict formula proof) ≡ Err error → IsTrim formula proof output (check_answer (Err error))
  by_pivot : (line : ℕ) → verdict formula proof ≡ Accepted → IsFirstRat (inferences_of_text formula proof) line
      → IsTrim formula proof output (said statuses.Refused (codes "refused: " ++ trim_error_text (RatStep line)))

-- the file of a trimmed proof, at the statuses at which it may have changed
abbrev pub trimmed_at : Status → List ℕ → List (List ℕ)
trimmed_at statuses.Outside name = name ∷ []
trimmed_at statuses.Done name = name ∷ []
trimmed_at status name = []

-- what a trim leaves where it is done
abbrev pub leaves_trimmed : Cnf → List ℕ → List ℕ → Status → Option Files → Type 0
leaves_trimmed formula proof output statuses.Done files = OfFile (HasTrimmed formula proof output) output files
leaves_trimmed formula proof output status files = leaves_none status files

-- yes says that the proof is accepted and rests on unit propagation alone, so no assignment satisfies the formula; no says that it isn't
-- accepted, or rests on something else too
abbrev pub trim_meaning : Cnf → List ℕ → List ℕ → Meaning
trim_meaning formula proof output = record (answered_by (IsTrim formula proof output)) {
  yes = (verdict formula proof ≡ Accepted) × NeedsNoRat (inferences_of_text formula proof) × IsUnsatisfiable formula;
  no = verdict formula proof ≡ Accepted → NeedsNoRat (inferences_of_text formula proof) → ⊥;
  writes = λ status. trimmed_at status output;
  leaves = leaves_trimmed formula proof output;
}
