use Rattle.std.proofs.Common.{◌≡◌, map, drop}
use Rattle.clap.specs.Words.{app_of}
use Rattle.lls_words.specs.Parser.{option_rule, with_rules}
use Rattle.lls_words.proofs.parser.with_options.Given as goal

-- the parser so far with what is left is the parser with all
abbrev pub invariant-loop-setting : goal.invariant-loop-setting
invariant-loop-setting l = with_rules (app_of l.parser) (map option_rule (drop l.setting-index l.settings)) ≡ with_rules (app_of l.fn.parser) (map option_rule l.settings)
