-- What the lines of a proof amount to: a state, which each line takes a step on.
use Rattle.std.specs.Prelude.{ℕ, ◌+◌, List, fold, Option, Some, None, Result, Ok, Err, if◌then◌else◌}
use Rattle.lls_text.specs.Lines.{lines_of}
use Rattle.lls_lit.specs.Formula.{Cnf}
use Rattle.lls_prooflog.specs.declared.line_fault.LineFault.{LineFault}
use Rattle.lls_prooflog.specs.declared.step_fault.StepFault.{StepFault}
use Rattle.lls_prooflog.specs.declared.step.Step.{Step}
use Rattle.lls_prooflog.specs.Line.{step_of_line}
use Rattle.lls_prooflog.specs.Steps.{Live, numbered, fault_of, after, is_empty_addition}
use Rattle.lls_lrat.specs.declared.error.CheckError.{CheckError}
use Rattle.lls_lrat.specs.declared.error.CheckError.TheVariants as errors

-- what a proof amounts to; lines are counted from 1
pub data Verdict : Type 0 where
  -- the empty clause was added, and every line up to it can be read and is good
  Accepted : Verdict
  -- the first line with a fault can't be read
  BadLine : ℕ → LineFault → Verdict
  -- or its step isn't good
  BadStep : ℕ → StepFault → Verdict
  -- the lines are good and don't add the empty clause
  NoEmpty : Verdict

-- a check under way: the live clauses, how many lines were read, and the verdict, once a line has brought it
pub record State : Type 0 where
  pub live : Live
  pub lines : ℕ
  pub end : Option Verdict

abbrev pub start : Cnf → State
start formula = record { live = numbered formula.clauses; lines = 0; end = None }

abbrev pub ended : State → Verdict → State
ended state verdict = record state { lines = state.lines + 1; end = Some verdict }

-- the state after a step that the next line writes
abbrev pub after_step : State → Step → Option StepFault → State
after_step state step (Some fault) = ended state (BadStep (state.lines + 1) fault)
after_step state step None =
    record {
      live = after state.live step;
      lines = state.lines + 1;
      end = if is_empty_addition step then Some Accepted else None;
    }

abbrev pub after_reading : State → Result (Option Step) LineFault → State
after_reading state (Err fault) = ended state (BadLine (state.lines + 1) fault)
after_reading state (Ok None) = record state { lines = state.lines + 1 }
after_reading state (Ok (Some step)) = after_step state step (fault_of state.live step)

-- the state after one more line; once there is an end no line is looked at
abbrev pub take_line : State → Option Verdict → List ℕ → State
take_line state (Some verdict) line = state
take_line state None line = after_reading state (step_of_line line)

abbrev pub line_taken : State → List ℕ → State
line_taken state line = take_line state state.end line

-- the state after one more step; once there is an end no step is looked at
abbrev pub take_step : State → Option Verdict → Step → State
take_step state (Some verdict) step = state
take_step state None step = after_step state step (fault_of state.live step)

abbrev pub step_taken : State → Step → State
step_taken state step = take_step state state.end step

-- without an end the lines end before the empty clause was added
abbrev pub closing : Option Verdict → Verdict
closing None = NoEmpty
closing (Some verdict) = verdict

-- what a proof's text amounts to: its lines taken in turn
abbrev pub verdict : Cnf → List ℕ → Verdict
verdict formula text = closing ((fold line_taken (start formula) (lines_of text)).end)

-- what the steps of a log amount to, each of them a line
abbrev pub log_verdict : Cnf → List Step → Verdict
log_verdict formula steps = closing ((fold step_taken (start formula) steps).end)

-- Ok where the proof is accepted, else why it isn't
abbrev pub answer_of : Verdict → Result (Unit {0}) CheckError
answer_of Accepted = Ok tt
answer_of (BadLine number fault) = Err (errors.Line number fault)
answer_of (BadStep number fault) = Err (errors.Step number fault)
answer_of NoEmpty = Err errors.NoEmpty
