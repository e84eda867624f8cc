-- The texts of faults: the name, then the numbers, each after one blank.
use Rattle.std.specs.Prelude.{ℕ, List, ◌++◌, Option, Some, None, codes}
use Rattle.std.specs.Fmt.{decimal}
use Rattle.lls_prooflog.specs.FaultText.{line_fault_name, line_fault_column}
use Rattle.lls_drat.specs.declared.drat_fault.DratFault.{DratFault}
use Rattle.lls_drat.specs.declared.drat_fault.DratFault.TheVariants.{Line, Head, Range, Cut}
use Rattle.lls_drat.specs.declared.drat_error.DratError.{DratError}
use Rattle.lls_drat.specs.declared.drat_error.DratError.TheVariants as errors

abbrev pub fault_name : DratFault → List ℕ
fault_name (Line number fault) = line_fault_name fault
fault_name (Head place) = codes "BadHead"
fault_name (Range place) = codes "Range"
fault_name (Cut place) = codes "Cut"

-- the line, or the place of a byte
abbrev pub fault_place : DratFault → ℕ
fault_place (Line number fault) = number
fault_place (Head place) = place
fault_place (Range place) = place
fault_place (Cut place) = place

-- the column, at a word of a line
abbrev pub fault_column : DratFault → Option ℕ
fault_column (Line number fault) = line_fault_column fault
fault_column (Head place) = None
fault_column (Range place) = None
fault_column (Cut place) = None

abbrev pub with_column : List ℕ → Option ℕ → List ℕ
with_column text None = text
with_column text (Some column) = text ++ codes " " ++ decimal column

abbrev pub fault_text : DratFault → List ℕ
fault_text fault = with_column (fault_name fault ++ codes " " ++ decimal (fault_place fault)) (fault_column fault)

abbrev pub error_text : DratError → List ℕ
error_text (errors.Fault fault) = fault_text fault
error_text errors.Memory = codes "Memory"
