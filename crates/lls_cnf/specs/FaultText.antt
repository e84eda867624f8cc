-- The text of a fault of DIMACS CNF: its name, then its numbers, each after one blank.
use Rattle.std.specs.Prelude.{ℕ, List, ◌++◌, codes}
use Rattle.std.specs.Fmt.{decimal, signed_decimal}
use Rattle.lls_cnf.specs.declared.dimacs_fault.DimacsFault.{DimacsFault}
use Rattle.lls_cnf.specs.declared.dimacs_fault.DimacsFault.TheVariants.{NoHeader, BadHeader, BadWord, LiteralRange, Unended, ClauseCount, TooManyVariables, Percent}
use Rattle.lls_cnf.specs.declared.dimacs_error.DimacsError.{DimacsError}
use Rattle.lls_cnf.specs.declared.dimacs_error.DimacsError.TheVariants.{Fault, Memory}

abbrev pub dimacs_fault_text : DimacsFault → List ℕ
dimacs_fault_text NoHeader = codes "NoHeader"
dimacs_fault_text (BadHeader line) = codes "BadHeader " ++ decimal line
dimacs_fault_text (BadWord line) = codes "BadWord " ++ decimal line
dimacs_fault_text (LiteralRange line number) = codes "LiteralRange " ++ decimal line ++ codes " " ++ signed_decimal number
dimacs_fault_text Unended = codes "Unended"
dimacs_fault_text (ClauseCount declared found) = codes "ClauseCount " ++ decimal declared ++ codes " " ++ decimal found
dimacs_fault_text (TooManyVariables n) = codes "TooManyVariables " ++ decimal n
dimacs_fault_text (Percent line) = codes "Percent " ++ decimal line

abbrev pub dimacs_error_text : DimacsError → List ℕ
dimacs_error_text (Fault fault) = dimacs_fault_text fault
dimacs_error_text Memory = codes "Memory"
