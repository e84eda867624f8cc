-- The texts of the faults: the variant's name, and its number after one blank.
use Rattle.std.specs.Prelude.{ℕ, List, ◌++◌, codes, decimal, Option, Some, None}
use Rattle.lls_hensel.specs.declared.read.RuleError.{RuleError}
use Rattle.lls_hensel.specs.declared.read.RuleError.TheVariants.{Empty, BadLetter, RepeatedDigit, RepeatedLetter, NoLetters, Stray}
use Rattle.lls_hensel.specs.declared.print.PrintRuleError.{PrintRuleError}
use Rattle.lls_hensel.specs.declared.print.PrintRuleError.TheVariants as printing

-- the name of a fault of a rule text
abbrev pub fault_name : RuleError → List ℕ
fault_name Empty = codes "Empty"
fault_name (BadLetter _) = codes "BadLetter"
fault_name (RepeatedDigit _) = codes "RepeatedDigit"
fault_name (RepeatedLetter _) = codes "RepeatedLetter"
fault_name (NoLetters _) = codes "NoLetters"
fault_name (Stray _) = codes "Stray"

-- its column
abbrev pub fault_column : RuleError → Option ℕ
fault_column Empty = None
fault_column (BadLetter column) = Some column
fault_column (RepeatedDigit column) = Some column
fault_column (RepeatedLetter column) = Some column
fault_column (NoLetters column) = Some column
fault_column (Stray column) = Some column

-- a name and the number behind it, if there is one
abbrev pub numbered : List ℕ → Option ℕ → List ℕ
numbered name None = name
numbered name (Some number) = name ++ codes " " ++ decimal number

abbrev pub rule_error_text : RuleError → List ℕ
rule_error_text fault = numbered (fault_name fault) (fault_column fault)

abbrev pub print_rule_error_text : PrintRuleError → List ℕ
print_rule_error_text (printing.NotIsotropic nine) = codes "NotIsotropic " ++ decimal nine
print_rule_error_text printing.Memory = codes "Memory"
