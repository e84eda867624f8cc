-- The text of a fault on the standard error, and its status. Every line begins with the program's name and ends with LF.
use Rattle.std.specs.Prelude.{ℕ, List, ◌++◌, codes, decimal}
use Rattle.lls_cnf.specs.declared.dimacs_fault.DimacsFault.{DimacsFault}
use Rattle.lls_cnf.specs.declared.dimacs_fault.DimacsFault.TheVariants as dimacs
use Rattle.lls_cnf.specs.FaultText.{dimacs_fault_text}
use Rattle.lls_drat.specs.declared.drat_error.DratError.{DratError}
use Rattle.lls_drat.specs.declared.drat_error.DratError.TheVariants as drat
use Rattle.lls_drat.specs.FaultText as proofs
use Rattle.lls_hinting.specs.declared.words_error.WordsError.{WordsError}
use Rattle.lls_hinting.specs.declared.words_error.WordsError.TheVariants as words
use Rattle.lls_hinting.specs.declared.fault.Fault.{Fault}
use Rattle.lls_hinting.specs.declared.fault.Fault.TheVariants as faults
use Rattle.lls_hinting.specs.declared.fault.OutsideFault.{OutsideFault}
use Rattle.lls_hinting.specs.declared.fault.OutsideFault.TheVariants as outside
use Rattle.lls_hinting.specs.declared.status.Status.{Status}
use Rattle.lls_hinting.specs.declared.status.Status.TheVariants as statuses

-- too many variables pass a limit; any other fault is one of grammar
abbrev pub dimacs_status : DimacsFault → Status
dimacs_status (dimacs.TooManyVariables n) = statuses.Limit
dimacs_status fault = statuses.Content

abbrev pub words_status : WordsError → Status
words_status words.Memory = statuses.Memory
words_status error = statuses.Words

abbrev pub status_of : Fault → Status
status_of (faults.Dimacs fault) = dimacs_status fault
status_of (faults.Proof fault) = statuses.Content
status_of (faults.Outside fault) = statuses.Outside
status_of (faults.TooLong limit) = statuses.Limit
status_of faults.Memory = statuses.Memory

-- the name of a fault of words, and its numbers
abbrev pub words_error_text : WordsError → List ℕ
words_error_text (words.BadWord place) = codes "BadWord " ++ decimal place
words_error_text (words.RepeatedOption place) = codes "RepeatedOption " ++ decimal place
words_error_text (words.MissingValue place) = codes "MissingValue " ++ decimal place
words_error_text (words.BadValue place) = codes "BadValue " ++ decimal place
words_error_text (words.Operands expected found) = codes "Operands " ++ decimal expected ++ codes " " ++ decimal found
words_error_text (words.SameName place) = codes "SameName " ++ decimal place
words_error_text words.Memory = codes "Memory"

-- what a text that is no formula is called
abbrev pub dimacs_kind : DimacsFault → List ℕ
dimacs_kind (dimacs.TooManyVariables n) = codes "limit: "
dimacs_kind fault = codes "content: "

abbrev pub outside_text : OutsideFault → List ℕ
outside_text outside.NoFile = codes "NoFile"
outside_text outside.OpenFailed = codes "OpenFailed"
outside_text outside.ReadFailed = codes "ReadFailed"
outside_text outside.Changed = codes "Changed"
outside_text outside.CreateFailed = codes "CreateFailed"
outside_text outside.WriteFailed = codes "WriteFailed"
outside_text outside.OutFailed = codes "OutFailed"

-- the kind of a fault and its text
abbrev pub fault_text : Fault → List ℕ
fault_text (faults.Dimacs fault) = dimacs_kind fault ++ dimacs_fault_text fault
fault_text (faults.Proof fault) = codes "content: " ++ proofs.fault_text fault
fault_text (faults.Outside fault) = codes "outside: " ++ outside_text fault
fault_text (faults.TooLong limit) = codes "limit: TooLong " ++ decimal limit
fault_text faults.Memory = codes "memory"

abbrev pub fault_line : Fault → List ℕ
fault_line fault = codes "lls-hints: " ++ fault_text fault ++ codes "\n"

-- the line of words that are no command line
abbrev pub words_line : WordsError → List ℕ
words_line words.Memory = fault_line faults.Memory
words_line error = codes "lls-hints: words: " ++ words_error_text error ++ codes "\n"

-- the fault of a proof that couldn't be read
abbrev pub proof_fault : DratError → Fault
proof_fault (drat.Fault fault) = faults.Proof fault
proof_fault drat.Memory = faults.Memory
