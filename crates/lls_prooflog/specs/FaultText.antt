-- The texts of faults: the name, then the number at fault, if there is one, after one blank.
use Rattle.std.specs.Prelude.{ℕ, List, ◌++◌, Option, Some, None, codes}
use Rattle.std.specs.Fmt.{decimal, signed_decimal}
use Rattle.std.specs.Option.{option_map}
use Rattle.lls_prooflog.specs.declared.line_fault.LineFault.{LineFault}
use Rattle.lls_prooflog.specs.declared.line_fault.LineFault.TheVariants.{BadWord, NoZero, Extra, Range}
use Rattle.lls_prooflog.specs.declared.line_error.LineError.{LineError}
use Rattle.lls_prooflog.specs.declared.line_error.LineError.TheVariants.{Fault, Memory}
use Rattle.lls_prooflog.specs.declared.step_fault.StepFault.{StepFault}
use Rattle.lls_prooflog.specs.declared.step_fault.StepFault.TheVariants.{IdLive, NoClause, NotUnit, NoConflict, RatMissing, RatOther}
use Rattle.lls_prooflog.specs.declared.step_fault.Culprit.{Culprit}
use Rattle.lls_prooflog.specs.declared.step_fault.Culprit.TheVariants.{Id, Hint}

-- a name, and the number behind it, if there is one
abbrev pub named : List ℕ → Option (List ℕ) → List ℕ
named name None = name
named name (Some number) = name ++ codes " " ++ number

abbrev pub line_fault_name : LineFault → List ℕ
line_fault_name (BadWord column) = codes "BadWord"
line_fault_name NoZero = codes "NoZero"
line_fault_name (Extra column) = codes "Extra"
line_fault_name (Range column) = codes "Range"

abbrev pub line_fault_column : LineFault → Option ℕ
line_fault_column (BadWord column) = Some column
line_fault_column NoZero = None
line_fault_column (Extra column) = Some column
line_fault_column (Range column) = Some column

abbrev pub line_fault_text : LineFault → List ℕ
line_fault_text fault = named (line_fault_name fault) (option_map decimal (line_fault_column fault))

abbrev pub line_error_text : LineError → List ℕ
line_error_text (Fault fault) = line_fault_text fault
line_error_text Memory = codes "Memory"

abbrev pub step_fault_name : StepFault → List ℕ
step_fault_name (IdLive id) = codes "IdLive"
step_fault_name (NoClause hint) = codes "NoClause"
step_fault_name (NotUnit hint) = codes "NotUnit"
step_fault_name NoConflict = codes "NoConflict"
step_fault_name (RatMissing id) = codes "RatMissing"
step_fault_name (RatOther id) = codes "RatOther"

-- the id or the hint that is at fault
abbrev pub culprit_of : StepFault → Option Culprit
culprit_of (IdLive id) = Some (Id id)
culprit_of (NoClause hint) = Some (Hint hint)
culprit_of (NotUnit hint) = Some (Hint hint)
culprit_of NoConflict = None
culprit_of (RatMissing id) = Some (Id id)
culprit_of (RatOther id) = Some (Id id)

abbrev pub culprit_text : Culprit → List ℕ
culprit_text (Id id) = decimal id
culprit_text (Hint hint) = signed_decimal hint

abbrev pub step_fault_text : StepFault → List ℕ
step_fault_text fault = named (step_fault_name fault) (option_map culprit_text (culprit_of fault))
