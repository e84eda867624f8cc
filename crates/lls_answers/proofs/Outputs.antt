-- The file that an answer writes, if it writes one, and what it leaves there.
use Rattle.std.proofs.Common.{◌≡◌, ℕ, List, [], ◌∷◌, Option, None, Some, refl, ap, sym, subst, ◌⊎◌}
use Rattle.std.specs.FinMap as map
use Rattle.std.specs.Option.{option_map}
use Rattle.lls_base.specs.Shelf.{Files}
use Rattle.lls_base.proofs.FileMaps.{get-insert_same}
use Rattle.lls_lit.specs.Formula.{Cnf}
use Rattle.lls_prooflog.specs.declared.step.Step.{Step}
use Rattle.lls_answers.specs.declared.effort.Effort.{Effort}
use Rattle.lls_answers.specs.declared.answer_file.AnswerFile.{AnswerFile}
use Rattle.lls_answers.specs.declared.answer.Answer.{Answer}
use Rattle.lls_answers.specs.declared.status.Status.{Status}
use Rattle.lls_answers.specs.declared.status.Status.TheVariants as statuses
use Rattle.lls_answers.specs.Evidence.{HasLog, HasProof, HasSpentLog}
use Rattle.lls_answers.specs.Meaning.{Meaning, OfFile, says, search_file_at}
use Rattle.lls_outside.specs.Moment.{ShelfMoment, files_at}
use Rattle.lls_answers.specs.Standing.{WroteFile}
use Rattle.lls_answers.proofs.Standing.{wrote_some}

-- an answer's file is the one that may have changed, at its status and where the writing of it fails
pub record Writes (meaning : Meaning) (answer : Answer) : Type 0 where
  pub file : AnswerFile
  pub file_is : answer.file ≡ Some file
  pub at_status : meaning.writes answer.status ≡ file.name ∷ []
  pub at_failure : meaning.writes statuses.Outside ≡ file.name ∷ []

abbrev pub WritesAtMost : Meaning → Answer → Type 0
WritesAtMost meaning answer = (answer.file ≡ None) ⊎ Writes meaning answer

-- a status at which a file that is written ahead may have changed
abbrev pub MayWriteAhead : Option AnswerFile → Status → Type 0
MayWriteAhead ahead status = (file : AnswerFile) → ahead ≡ Some file → search_file_at status file.name ≡ file.name ∷ []

-- what every right answer does: it writes one file at most, leaves there what its status says, and has a status at which what is
-- written ahead may stand
pub record IsLawful (meaning : Meaning) : Type 0 where
  pub writes : (answer : Answer) → meaning.answers answer → WritesAtMost meaning answer
  pub leaves : (answer : Answer) (before after : ShelfMoment) → meaning.answers answer → WroteFile answer.file before after → meaning.leaves answer.status (files_at after)
  pub ahead : (status : Status) → says meaning status → MayWriteAhead meaning.ahead status

-- nothing is written ahead
pub none_ahead : (status : Status) → MayWriteAhead None status
none_ahead status file is = absurd cc

-- the name of a log's file
pub one_name : (effort : Effort) (steps : List Step) (file : AnswerFile) → HasLog effort steps file → effort.proof ∷ [] ≡ file.name ∷ []
one_name effort steps file log = ap (λ (f : AnswerFile). f.name ∷ []) (sym log.file_is)

of_inserted : (Fact : AnswerFile → Type 0) (file : AnswerFile) (files : Option Files) → Fact file → OfFile Fact file.name (option_map (λ known. map.insert known file.name file.bytes) files)
of_inserted Fact file None fact = tt
of_inserted Fact file (Some files) fact = (file.bytes, get-insert_same files file.name file.bytes, fact)

-- a file that was written whole stands there
pub of_written : (Fact : AnswerFile → Type 0) (file : AnswerFile) (name : List ℕ) (before after : ShelfMoment) → file.name ≡ name → Fact file
    → WroteFile (Some file) before after → OfFile Fact name (files_at after)
of_written Fact file name before after named fact wrote =
    subst (λ n. OfFile Fact n (files_at after)) named (subst (OfFile Fact file.name) (sym (wrote_some (Some file) file before after refl wrote)) (of_inserted Fact file (files_at before) fact))

pub named_by : (effort : Effort) (steps : List Step) (file : AnswerFile) → HasLog effort steps file → file.name ≡ effort.proof
named_by effort steps file log = ap (λ (f : AnswerFile). f.name) log.file_is

-- the file of a proof, and that of a log
pub proof_left : (formula : Cnf) (effort : Effort) (file : AnswerFile) (before after : ShelfMoment) → HasProof formula effort file → WroteFile (Some file) before after
    → OfFile (HasProof formula effort) effort.proof (files_at after)
proof_left formula effort file before after proof wrote =
    of_written (HasProof formula effort) file effort.proof before after (named_by effort proof.steps file proof.log) proof wrote

pub log_left : (formula : Cnf) (effort : Effort) (file : AnswerFile) (before after : ShelfMoment) → HasSpentLog formula effort file → WroteFile (Some file) before after
    → OfFile (HasSpentLog formula effort) effort.proof (files_at after)
log_left formula effort file before after log wrote =
    of_written (HasSpentLog formula effort) file effort.proof before after (named_by effort log.steps file log.log) log wrote
