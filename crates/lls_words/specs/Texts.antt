-- The text of a fault of words: its name and its numbers, each after one blank. The fault of a rule text has its place before its column.
use Rattle.std.specs.Prelude.{ℕ, List, ◌++◌, codes, decimal, Option, None, Some}
use Rattle.lls_hensel.specs.declared.read.RuleError.{RuleError}
use Rattle.lls_hensel.specs.Faults.{fault_name, fault_column}
use Rattle.lls_words.specs.declared.error.WordsError.{WordsError}
use Rattle.lls_words.specs.declared.error.WordsError.TheVariants as words

-- two numbers with one blank between
abbrev pub pair_text : ℕ → ℕ → List ℕ
pair_text first second = decimal first ++ codes " " ++ decimal second

-- a name, the place of a word, and a column of it
abbrev pub placed_text : List ℕ → ℕ → Option ℕ → List ℕ
placed_text name place None = name ++ codes " " ++ decimal place
placed_text name place (Some column) = name ++ codes " " ++ pair_text place column

abbrev pub bad_rule_text : ℕ → RuleError → List ℕ
bad_rule_text place fault = placed_text (fault_name fault) place (fault_column fault)

abbrev pub words_error_text : WordsError → List ℕ
words_error_text words.NoCommand = codes "NoCommand"
words_error_text words.UnknownCommand = codes "UnknownCommand"
words_error_text (words.BadWord place) = codes "BadWord " ++ decimal place
words_error_text (words.UnknownOption place) = codes "UnknownOption " ++ decimal place
words_error_text (words.RepeatedOption place) = codes "RepeatedOption " ++ decimal place
words_error_text (words.MissingValue place) = codes "MissingValue " ++ decimal place
words_error_text (words.BadValue place) = codes "BadValue " ++ decimal place
words_error_text (words.BadRule place fault) = bad_rule_text place fault
words_error_text (words.NoPeriod place) = codes "NoPeriod " ++ decimal place
words_error_text (words.Operands expected found) = codes "Operands " ++ pair_text expected found
words_error_text (words.SameName place) = codes "SameName " ++ decimal place
words_error_text (words.RulesCross nine) = codes "RulesCross " ++ decimal nine
words_error_text (words.LooseBackground nine) = codes "LooseBackground " ++ decimal nine
words_error_text words.Memory = codes "Memory"
