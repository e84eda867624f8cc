-- For private contracts alone: a check under way, as its checker has it.
use Rattle.std.specs.Prelude.{ℕ, Option, Some, None, Result, Ok, Err, if◌then◌else◌}
use Rattle.lls_lit.specs.Formula.{Cnf}
use Rattle.lls_lrat.specs.Checking.{Checking}
use Rattle.lls_lrat.specs.Verdict.{Verdict, Accepted, BadLine, BadStep, NoEmpty, State, closing, answer_of}
use Rattle.lls_lrat.specs.Feeding.{end_answer}
use Rattle.lls_lrat.specs.declared.checker.Progress.{Progress}
use Rattle.lls_lrat.specs.declared.error.CheckError.{CheckError}
use Rattle.lls_lrat.specs.declared.error.CheckError.TheVariants as errors

-- the state behind so many lines
abbrev pub at_line : Checking → ℕ → State
at_line c lines = record { live = c.live; lines = lines; end = if c.done then Some Accepted else None }

-- a state, or the fault that ended it
abbrev pub unless_ended : State → Option Verdict → Result State CheckError
unless_ended state None = Ok state
unless_ended state (Some Accepted) = Ok state
unless_ended state (Some (BadLine number fault)) = Err (errors.Line number fault)
unless_ended state (Some (BadStep number fault)) = Err (errors.Step number fault)
unless_ended state (Some NoEmpty) = Err errors.NoEmpty

abbrev pub or_fault : State → Result State CheckError
or_fault state = unless_ended state state.end

-- the state that a fault ended, or none where memory lacked
abbrev pub stopped : State → Option CheckError → Option State
stopped state None = Some state
stopped state (Some (errors.Line number fault)) = Some (record state { end = Some (BadLine number fault) })
stopped state (Some (errors.Step number fault)) = Some (record state { end = Some (BadStep number fault) })
stopped state (Some errors.NoEmpty) = Some (record state { end = Some NoEmpty })
stopped state (Some errors.Memory) = None

-- a check of lines: the formula, and the state, or none once memory lacked
pub record LineChecking : Type 0 where
  pub formula : Cnf
  pub state : Option State

-- what the last line came to
abbrev pub answer_at : Option State → Result Progress CheckError
answer_at None = Err errors.Memory
answer_at (Some state) = end_answer state.end

-- what the lines come to where none follows
abbrev pub closing_at : Option State → Result (Unit {0}) CheckError
closing_at None = Err errors.Memory
closing_at (Some state) = answer_of (closing state.end)
