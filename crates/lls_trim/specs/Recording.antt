-- For private contracts alone: a check under way that records the additions.
use Rattle.std.specs.Prelude.{◌≡◌, ℕ, ◌+◌, Bool, false, List, [], ◌∷◌, ◌++◌, fold, length, Option, Some, None, Result, Ok, Err}
use Rattle.lls_lit.specs.Formula.{Clause, Cnf}
use Rattle.lls_prooflog.specs.declared.line_fault.LineFault.{LineFault}
use Rattle.lls_prooflog.specs.declared.step_fault.StepFault.{StepFault}
use Rattle.lls_prooflog.specs.declared.step.Step.{Step}
use Rattle.lls_prooflog.specs.declared.step.Step.TheVariants.{Add, Del}
use Rattle.lls_prooflog.specs.Steps.{Live, numbered, find_clause, fault_of, after, is_empty_addition}
use Rattle.lls_lrat.specs.declared.refusal.Refusal.{Refusal}
use Rattle.lls_lrat.specs.declared.refusal.Refusal.TheVariants as refusals
use Rattle.lls_lrat.specs.declared.error.CheckError.{CheckError}
use Rattle.lls_lrat.specs.declared.error.CheckError.TheVariants as errors
use Rattle.lls_lrat.specs.Verdict.{Verdict, State, start, after_reading, closing}
use Rattle.lls_trim.specs.declared.recorder.Recorder.{Recorder}
use Rattle.lls_trim.specs.declared.source.Source.{Source}
use Rattle.lls_trim.specs.declared.source.Source.TheVariants.{Given}
use Rattle.lls_trim.specs.Numbers.{IsNumbered}
use Rattle.lls_trim.specs.Buffers.{names_in}
use Rattle.lls_trim.specs.Placed.{placed_from}
use Rattle.lls_trim.specs.Inferences.{Inference, Before, with_name, inference_at, inferences_from, inferences_of}

-- the live clauses, what ids name, the additions so far, and whether the empty clause is among them
pub record Recording : Type 0 where
  pub live : Live
  pub names : ℕ → Source
  pub inferences : List Inference
  pub done : Bool

abbrev pub recording_of : Recorder → Recording
recording_of r = record { live = r.checker.live; names = names_in r.names; inferences = r.inferences; done = r.checker.done }

abbrev pub begun : Cnf → Recording
begun formula = record { live = numbered formula.clauses; names = Given; inferences = []; done = false }

-- what the ids of live clauses name has a number
abbrev pub AreNumbered : Live → (ℕ → Source) → Type 0
AreNumbered live names = (q : ℕ) (clause : Clause) → find_clause live q ≡ Some clause → IsNumbered (names q)

abbrev pub before : Recording → Before
before r = record { live = r.live; names = r.names; count = length r.inferences }

-- the record behind a good step of that line
abbrev pub with_step : ℕ → Recording → Step → Recording
with_step line r (Add id lits hints) =
    record {
      live = after r.live (Add id lits hints);
      names = with_name r.names id (length r.inferences);
      inferences = r.inferences ++ inference_at (before r) line lits hints ∷ [];
      done = is_empty_addition (Add id lits hints);
    }
with_step line r (Del ids) = record r { live = after r.live (Del ids) }

abbrev pub unless_fault : ℕ → Recording → Step → Option StepFault → Result Recording CheckError
unless_fault line r step None = Ok (with_step line r step)
unless_fault line r step (Some fault) = Err (errors.Step line fault)

-- the record behind a step of that line, or why it isn't good
abbrev pub step_recorded : ℕ → Recording → Step → Result Recording CheckError
step_recorded line r step = unless_fault line r step (fault_of r.live step)

abbrev pub reading_recorded : ℕ → Recording → Result (Option Step) LineFault → Result Recording CheckError
reading_recorded line r (Ok (Some step)) = step_recorded line r step
reading_recorded line r (Ok None) = Ok r
reading_recorded line r (Err fault) = Err (errors.Line line fault)

abbrev pub refusal_at : ℕ → Refusal → CheckError
refusal_at line (refusals.Fault fault) = errors.Step line fault
refusal_at line refusals.Memory = errors.Memory

-- a check's state takes what a line writes; once there is an end nothing is looked at
abbrev pub take_reading : State → Option Verdict → Result (Option Step) LineFault → State
take_reading state (Some verdict) reading = state
take_reading state None reading = after_reading state reading

abbrev pub reading_taken : State → Result (Option Step) LineFault → State
reading_taken state reading = take_reading state state.end reading

-- the state of a check that goes on, behind so many lines
abbrev pub state_at : Recording → ℕ → State
state_at r lines = record { live = r.live; lines = lines; end = None }

abbrev pub verdict_of : Cnf → List (Result (Option Step) LineFault) → Verdict
verdict_of formula readings = closing (fold reading_taken (start formula) readings).end

-- the record goes on behind so many lines: what it and the lines that are left come to is what all lines come to
pub record GoesOn (formula : Cnf) (readings : List (Result (Option Step) LineFault)) (r : Recording) (lines : ℕ) (rest : List (Result (Option Step) LineFault)) : Type 0 where
  pub going : r.done ≡ false
  pub inferences : r.inferences ++ inferences_from (before r) (placed_from (lines + 1) rest) ≡ inferences_of formula (placed_from 1 readings)
  pub verdict : fold reading_taken (state_at r lines) rest ≡ fold reading_taken (start formula) readings
