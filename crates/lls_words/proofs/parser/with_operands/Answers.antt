use Rattle.std.proofs.Common.{◌+◌, ◌∙◌, map, drop, ap, sym}
use Rattle.std.proofs.lemmas.List.{at_drop_more}
use Rattle.clap.specs.Words.{app_of, with_rule}
use Rattle.lls_words.specs.Parser.{operand_rule, with_rules}
use Rattle.lls_words.proofs.Rules.{with_rules-more}
use Rattle.lls_words.proofs.parser.with_operands.Goals as goal

pub loop-name-preserved : goal.loop-name-preserved
loop-name-preserved c =
    let rules = map operand_rule (map (λ name. name.now) (drop (c.loop-name.name-index + 1) c.args.names.now)) in
    let old = app_of c.loop-name.parser in
    ap (λ a. with_rules a rules) (c.in_ok-parser.ensures.shape c.operand_arg.ensures.local ∙ ap (with_rule old) c.operand_arg.ensures.rule)
    ∙ (with_rules-more old _ rules
    ∙ (sym (at_drop_more (λ names. with_rules old (map operand_rule (map (λ name. name.now) names))) c.args.names.now c.loop-name.name-index _ c.loop-name-test.true) ∙ c.loop-name.invariant))
