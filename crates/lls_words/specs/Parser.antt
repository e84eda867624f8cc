-- The parser of a command: what `clap` knows of its options and operands.
use Rattle.std.specs.Prelude.{◌≡◌, ℕ, All, true, List, ◌++◌, map, codes, Some}
use Rattle.clap.specs.Words.{App, Rule, first_value, new_app, new_rule}
use Rattle.clap.specs.declared.parser.matches.Found.{Found}
use Rattle.lls_words.specs.declared.command.Command.{Command}
use Rattle.lls_words.specs.declared.command.Setting.{Setting}
use Rattle.lls_words.specs.Command.{operand_names, option_name, options_of}
use Rattle.lls_words.specs.Scan.{Scanned}

-- an option takes one value
abbrev pub option_rule : Setting → Rule
option_rule setting = record (new_rule (option_name setting)) { long = Some (option_name setting) }

-- an operand is required, and takes one value
abbrev pub operand_rule : List ℕ → Rule
operand_rule name = record (new_rule name) { required = true }

-- a parser with more options or operands
abbrev pub with_rules : App → List Rule → App
with_rules a rules = record a { top = record a.top { rules = a.top.rules ++ rules } }

-- no program's name comes first, and there is no `--help`
abbrev pub bare_parser : App
bare_parser = record (new_app (codes "lls")) { top = record (new_app (codes "lls")).top { no_binary_name = true; disable_help_flag = true } }

abbrev pub parser_of : Command → App
parser_of command = with_rules (with_rules bare_parser (map option_rule (options_of command))) (map operand_rule (operand_names command))

-- what a parse found is what was put into the words
pub record ReadsBack (command : Command) (s : Scanned) (found : Found) : Type 0 where
  pub options : All (λ given. first_value found (option_name given.setting) ≡ Some given.value) s.givens
  pub operands : map (first_value found) (operand_names command) ≡ map (λ operand. Some operand.word) s.operands
