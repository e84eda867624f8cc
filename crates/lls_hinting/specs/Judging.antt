-- For private contracts alone: what the lemmas of a file come to.
use Rattle.std.specs.Prelude.{◌≡◌, ◌⊎◌, ◌≤◌, ℕ, Bool, true, false, List, [], ◌∷◌, ◌++◌, length, Option, None, Some, Result, Ok, Err}
use Rattle.std.specs.List.{list_all}
use Rattle.std.specs.FinMap as map
use Rattle.lls_base.specs.Results.{and_then}
use Rattle.lls_base.specs.Shelf.{Files}
use Rattle.lls_lit.specs.Formula.{Clause, Cnf, is_within}
use Rattle.lls_prooflog.specs.declared.step.Step.{Step}
use Rattle.lls_drat.specs.declared.form.Form.{Form}
use Rattle.lls_drat.specs.declared.kind.Kind.{Kind}
use Rattle.lls_drat.specs.declared.kind.Kind.TheVariants.{Addition}
use Rattle.lls_drat.specs.Lemma.{NumberedLemma}
use Rattle.lls_drat.specs.Proof.{no_more, proof_of}
use Rattle.lls_lemmas.specs.Lemmas.{IsNotAddable, IsNotImplied, LemmasState}
use Rattle.lls_hinting.specs.declared.fault.Fault.{Fault}
use Rattle.lls_hinting.specs.declared.fault.Fault.TheVariants as faults
use Rattle.lls_hinting.specs.declared.fault.OutsideFault.TheVariants as outside
use Rattle.lls_hinting.specs.declared.judging.Stand.{Stand}
use Rattle.lls_hinting.specs.declared.judging.Stand.TheVariants.{Going, Refuted, NotImplied}
use Rattle.lls_hinting.specs.declared.outcome.Outcome.{Outcome}
use Rattle.lls_hinting.specs.declared.tally.Tally.{Tally}
use Rattle.lls_hinting.specs.Outcome.{ComesTo}
use Rattle.lls_hinting.specs.Asked.{input_of, lemmas_in, proof_limit}
use Rattle.lls_hinting.specs.Behind.{Progress, Takes, TakesAll}
use Rattle.lls_hinting.specs.Place.{EndsBehind, Passes, Place, StopsBehind, with_front}
use Rattle.lls_hinting.specs.Refusal.{addition}

-- all literals of the lemmas are of these variables
abbrev pub are_within : ℕ → List NumberedLemma → Bool
are_within vars lemmas = list_all (λ l. is_within vars l.lemma.lits) lemmas

-- the greatest variable, or another that is greater, or the first refusal
abbrev pub SurveySays : Place → Place → Result ℕ Fault → Type 0
SurveySays before after (Ok vars) = (front : List NumberedLemma) × (are_within vars front ≡ true) × EndsBehind front before
SurveySays before after (Err fault) = (front : List NumberedLemma) × StopsBehind front before after fault

-- the lemmas of a proof's bytes, which have no greater variable
pub record Surveyed (vars : ℕ) (form : Form) (bytes : List ℕ) : Type 0 where
  pub lemmas : List NumberedLemma
  pub lemmas_are : proof_of form bytes ≡ with_front lemmas no_more
  pub within : are_within vars lemmas ≡ true
  pub fits : length bytes ≤ proof_limit

-- such are those of a file, or it is refused
abbrev pub IsSurveyed : Option Files → List ℕ → Form → Result ℕ Fault → Type 0
IsSurveyed None name form result = Unit {0}
IsSurveyed (Some files) name form (Ok vars) = (bytes : List ℕ) × (map.get files name ≡ Some bytes) × Surveyed vars form bytes
IsSurveyed (Some files) name form (Err fault) = and_then (input_of files name proof_limit) (lemmas_in form) ≡ Err fault

-- unit propagation over the live clauses has come to its end
abbrev pub IsResting : LemmasState → Type 0
IsResting state = (state.refuted ≡ true) ⊎ (state.settled ≡ true)

-- the steps of a log, and a tally of what was passed over
abbrev pub progress : List Step → Tally → Progress
progress steps tally = record { steps = steps; reasons = tally.reasons; unknown = tally.unknown }

-- what a lemma came to: it was taken, or isn't implied
abbrev pub LemmaSays : Cnf → ℕ → Kind → Clause → Progress → Progress → Result Bool Fault → Type 0
LemmaSays formula vars kind lits old new (Ok true) = Takes formula kind lits old new
LemmaSays formula vars kind lits old new (Ok false) =
    (kind ≡ Addition) × (new ≡ old) × IsNotImplied formula new.steps lits × IsNotAddable formula new.steps lits
LemmaSays formula vars kind lits old new (Err faults.Memory) = Unit {0}
LemmaSays formula vars kind lits old new (Err (faults.Outside outside.Changed)) = is_within vars lits ≡ false
LemmaSays formula vars kind lits old new (Err fault) = ⊥

-- the lemma of that number isn't implied behind those before it
pub record StopsAfter (formula : Cnf) (number : ℕ) (old new : Progress) (before after : Place) : Type 0 where
  pub front : List NumberedLemma
  pub lits : Clause
  pub passes : Passes (front ++ addition number lits ∷ []) before after
  pub taken : TakesAll formula front old new
  pub not_implied : IsNotImplied formula new.steps lits
  pub not_addable : IsNotAddable formula new.steps lits

-- a lemma has a greater variable
pub record HasGreater (vars : ℕ) (before after : Place) : Type 0 where
  pub front : List NumberedLemma
  pub lemma : NumberedLemma
  pub passes : Passes (front ++ lemma ∷ []) before after
  pub greater : is_within vars lemma.lemma.lits ≡ false

-- what the lemmas that are left came to
abbrev pub JudgeSays : Cnf → ℕ → Progress → Progress → Place → Place → Result Stand Fault → Type 0
JudgeSays formula vars old new before after (Ok Going) = (front : List NumberedLemma) × EndsBehind front before × TakesAll formula front old new
JudgeSays formula vars old new before after (Ok Refuted) = (front : List NumberedLemma) × Passes front before after × TakesAll formula front old new
JudgeSays formula vars old new before after (Ok (NotImplied number)) = StopsAfter formula number old new before after
JudgeSays formula vars old new before after (Err (faults.Outside outside.Changed)) = HasGreater vars before after
JudgeSays formula vars old new before after (Err fault) = (front : List NumberedLemma) × StopsBehind front before after fault

-- what a proof that was surveyed came to
abbrev pub StandSays : Cnf → List NumberedLemma → Progress → Progress → Stand → Type 0
StandSays formula lemmas old new Going = TakesAll formula lemmas old new
StandSays formula lemmas old new Refuted = (front : List NumberedLemma) × (behind : List NumberedLemma) × (lemmas ≡ front ++ behind) × TakesAll formula front old new
StandSays formula lemmas old new (NotImplied number) =
    (front : List NumberedLemma) × (lits : Clause) × (behind : List NumberedLemma) × (lemmas ≡ front ++ addition number lits ∷ behind)
    × TakesAll formula front old new × IsNotImplied formula new.steps lits × IsNotAddable formula new.steps lits

-- where the file is as it was when it was surveyed, that is all it comes to
abbrev pub IsJudged : Cnf → ℕ → Option Files → List ℕ → Form → Progress → Progress → Result Stand Fault → Type 0
IsJudged formula vars None name form old new result = Unit {0}
IsJudged formula vars (Some files) name form old new (Ok stand) =
    (bytes : List ℕ) → map.get files name ≡ Some bytes → (surveyed : Surveyed vars form bytes) → StandSays formula surveyed.lemmas old new stand
IsJudged formula vars (Some files) name form old new (Err fault) =
    (bytes : List ℕ) → map.get files name ≡ Some bytes → Surveyed vars form bytes → ⊥

-- what a surveyed proof of a formula comes to
abbrev pub IsProved : Cnf → ℕ → Option Files → List ℕ → Form → Result Outcome Fault → Type 0
IsProved formula vars None name form result = Unit {0}
IsProved formula vars (Some files) name form (Ok outcome) =
    (bytes : List ℕ) → map.get files name ≡ Some bytes → (surveyed : Surveyed vars form bytes) → ComesTo (record { formula = formula; lemmas = surveyed.lemmas }) outcome
IsProved formula vars (Some files) name form (Err fault) =
    (bytes : List ℕ) → map.get files name ≡ Some bytes → Surveyed vars form bytes → ⊥
