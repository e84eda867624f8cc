use Rattle.std.proofs.Common.{◌≡◌, map, drop}
use Rattle.clap.specs.Words.{app_of}
use Rattle.lls_words.specs.Parser.{operand_rule, with_rules}
use Rattle.lls_words.proofs.parser.with_operands.Given as goal

-- the parser so far with what is left is the parser with all
abbrev pub invariant-loop-name : goal.invariant-loop-name
invariant-loop-name l =
    with_rules (app_of l.parser) (map operand_rule (map (λ name. name.now) (drop l.name-index l.names))) ≡ with_rules (app_of l.fn.parser) (map operand_rule (map (λ name. name.now) l.names))
