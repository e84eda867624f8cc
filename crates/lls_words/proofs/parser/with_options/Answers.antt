use Rattle.std.proofs.Common.{◌+◌, ◌∙◌, map, drop, ap, sym}
use Rattle.std.proofs.lemmas.List.{at_drop_more}
use Rattle.clap.specs.Words.{app_of, with_rule}
use Rattle.lls_words.specs.Parser.{option_rule, with_rules}
use Rattle.lls_words.proofs.Rules.{with_rules-more}
use Rattle.lls_words.proofs.parser.with_options.Goals as goal

pub loop-setting-preserved : goal.loop-setting-preserved
loop-setting-preserved c =
    let rules = map option_rule (drop (c.loop-setting.setting-index + 1) c.args.settings.now) in
    let old = app_of c.loop-setting.parser in
    ap (λ a. with_rules a rules) (c.in_ok-parser.ensures.shape c.option_arg.ensures.local ∙ ap (with_rule old) c.option_arg.ensures.rule)
    ∙ (with_rules-more old _ rules
    ∙ (sym (at_drop_more (λ settings. with_rules old (map option_rule settings)) c.args.settings.now c.loop-setting.setting-index _ c.loop-setting-test.true) ∙ c.loop-setting.invariant))
