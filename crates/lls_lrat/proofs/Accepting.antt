-- An accepted text refutes its formula.
use Rattle.std.proofs.Common.{◌≡◌, ℕ, Bool, true, false, cond, List, [], ◌∷◌, Option, Some, None, refl}
use Rattle.std.specs.Prelude.{Result, Ok, Err, fold}
use Rattle.std.specs.List.{list_all}
use Rattle.lls_text.specs.Lines.{lines_of}
use Rattle.lls_lit.specs.Formula.{Cnf, is_within, IsUnsatisfiable}
use Rattle.lls_prooflog.specs.declared.line_fault.LineFault.{LineFault}
use Rattle.lls_prooflog.specs.declared.step_fault.StepFault.{StepFault}
use Rattle.lls_prooflog.specs.declared.step.Step.{Step}
use Rattle.lls_prooflog.specs.Line.{step_of_line}
use Rattle.lls_prooflog.specs.Steps.{fault_of, after, is_empty_addition, has_literals, AreProper, KeepsSatisfiable}
use Rattle.lls_prooflog.proofs.InRange.{line_has_literals}
use Rattle.lls_prooflog.proofs.Proper.{AreProper-numbered, AreProper-after}
use Rattle.lls_prooflog.proofs.Soundness.{KeepsSatisfiable-numbered, KeepsSatisfiable-after, unsatisfiable_at_empty}
use Rattle.lls_lrat.specs.Verdict.{Verdict, Accepted, State, start, after_step, after_reading, take_line, line_taken, verdict}
use Rattle.lls_lrat.proofs.Checks.{literals_within}
use Rattle.lls_lrat.proofs.Logs.{closes}

-- what holds behind any lines
record IsSound (formula : Cnf) (state : State) : Type 0 where
  proper : AreProper state.live
  kept : KeepsSatisfiable formula state.live
  refuted : state.end ≡ Some Accepted → IsUnsatisfiable formula

empty_if_accepted : (b : Bool) → cond b (Some Accepted) None ≡ Some Accepted → b ≡ true
empty_if_accepted true e = refl
empty_if_accepted false e = absurd cc

sound_step : (formula : Cnf) (state : State) (step : Step) (fault : Option StepFault) → has_literals step ≡ true → fault_of state.live step ≡ fault → IsSound formula state → IsSound formula (after_step state step fault)
sound_step formula state step (Some fault) literals is h = record { proper = h.proper; kept = h.kept; refuted = λ e. absurd cc }
sound_step formula state step None literals is h = record {
  proper = AreProper-after state.live step h.proper literals is;
  kept = KeepsSatisfiable-after formula state.live step h.proper literals h.kept is;
  refuted = λ e. unsatisfiable_at_empty formula state.live step h.kept is (empty_if_accepted (is_empty_addition step) e);
}

sound_reading : (formula : Cnf) (state : State) (line : List ℕ) (reading : Result (Option Step) LineFault) → step_of_line line ≡ reading → IsSound formula state → IsSound formula (after_reading state reading)
sound_reading formula state line (Err fault) is h = record { proper = h.proper; kept = h.kept; refuted = λ e. absurd cc }
sound_reading formula state line (Ok None) is h = record { proper = h.proper; kept = h.kept; refuted = h.refuted }
sound_reading formula state line (Ok (Some step)) is h = sound_step formula state step (fault_of state.live step) (line_has_literals line step is) refl h

sound_line : (formula : Cnf) (state : State) (end : Option Verdict) (line : List ℕ) → IsSound formula state → IsSound formula (take_line state end line)
sound_line formula state (Some verdict) line h = h
sound_line formula state None line h = sound_reading formula state line (step_of_line line) refl h

sound_lines : (formula : Cnf) (state : State) (lines : List (List ℕ)) → IsSound formula state → IsSound formula (fold line_taken state lines)
sound_lines formula state [] h = h
sound_lines formula state (line ∷ lines) h = sound_lines formula (line_taken state line) lines (sound_line formula state state.end line h)

sound_start : (formula : Cnf) → list_all (is_within formula.vars) formula.clauses ≡ true → IsSound formula (start formula)
sound_start formula within = record {
  proper = AreProper-numbered formula (literals_within formula.vars formula.clauses within);
  kept = KeepsSatisfiable-numbered formula;
  refuted = λ e. absurd cc;
}

pub unsatisfiable_if_accepted : (formula : Cnf) (text : List ℕ) → list_all (is_within formula.vars) formula.clauses ≡ true → verdict formula text ≡ Accepted → IsUnsatisfiable formula
unsatisfiable_if_accepted formula text within e =
    let all = sound_lines formula (start formula) (lines_of text) (sound_start formula within) in
    all.refuted (closes (fold line_taken (start formula) (lines_of text)).end e)
