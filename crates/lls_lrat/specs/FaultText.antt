-- The texts of refusals and of a proof's faults: the name, then the numbers, each after one blank.
use Rattle.std.specs.Prelude.{ℕ, List, ◌++◌, Option, Some, None, codes}
use Rattle.std.specs.Fmt.{decimal}
use Rattle.std.specs.Option.{option_map}
use Rattle.lls_prooflog.specs.declared.line_fault.LineFault.{LineFault}
use Rattle.lls_prooflog.specs.declared.step_fault.StepFault.{StepFault}
use Rattle.lls_prooflog.specs.FaultText.{line_fault_name, line_fault_column, step_fault_name, culprit_of, culprit_text, step_fault_text}
use Rattle.lls_lrat.specs.declared.refusal.Refusal.{Refusal}
use Rattle.lls_lrat.specs.declared.refusal.Refusal.TheVariants as refusals
use Rattle.lls_lrat.specs.declared.error.CheckError.{CheckError}
use Rattle.lls_lrat.specs.declared.error.CheckError.TheVariants as errors

abbrev pub refusal_text : Refusal → List ℕ
refusal_text (refusals.Fault fault) = step_fault_text fault
refusal_text refusals.Memory = codes "Memory"

-- the line stands between a fault's name and its own number, if it has one
abbrev pub on_line : List ℕ → ℕ → Option (List ℕ) → List ℕ
on_line name line None = name ++ codes " " ++ decimal line
on_line name line (Some number) = name ++ codes " " ++ decimal line ++ codes " " ++ number

abbrev pub line_text : ℕ → LineFault → List ℕ
line_text line fault = on_line (line_fault_name fault) line (option_map decimal (line_fault_column fault))

abbrev pub step_text : ℕ → StepFault → List ℕ
step_text line fault = on_line (step_fault_name fault) line (option_map culprit_text (culprit_of fault))

abbrev pub check_error_text : CheckError → List ℕ
check_error_text (errors.Line line fault) = line_text line fault
check_error_text (errors.Step line fault) = step_text line fault
check_error_text errors.NoEmpty = codes "NoEmpty"
check_error_text errors.Memory = codes "Memory"
