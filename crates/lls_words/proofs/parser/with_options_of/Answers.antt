use Rattle.std.proofs.Common.{◌∙◌, map, ap₂, ap}
use Rattle.std.proofs.lemmas.Result.{IfOk-weaker}
use Rattle.clap.specs.Words.{app_of}
use Rattle.lls_words.specs.Command.{other_options, rule_options}
use Rattle.lls_words.specs.Parser.{option_rule, with_rules}
use Rattle.lls_words.proofs.Rules.{with_options-again}
use Rattle.lls_words.proofs.parser.with_options_of.Goals as goal

pub returns : goal.returns
returns c =
    let first = c.in_ok-parser.ensures ∙ ap (λ settings. with_rules (app_of c.args.parser) (map option_rule settings)) c.rule_options.ensures in
    IfOk-weaker c.with_options-2.result _ _
    (λ more is. is ∙ (ap₂ (λ a settings. with_rules a (map option_rule settings)) first c.other_options.ensures
    ∙ with_options-again (app_of c.args.parser) (rule_options c.args.command) (other_options c.args.command)))
    c.with_options-2.ensures
