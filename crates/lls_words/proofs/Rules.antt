-- A parser with more rules.
use Rattle.std.proofs.Common.{◌≡◌, List, [], ◌∷◌, ◌++◌, map, sym, ap, ◌∙◌, append_assoc}
use Rattle.std.proofs.lemmas.List.{append-nil, map-append}
use Rattle.clap.specs.Words.{App, Rule, with_rule}
use Rattle.lls_words.specs.declared.command.Setting.{Setting}
use Rattle.lls_words.specs.Parser.{option_rule, with_rules}

abbrev to_rules : App → List Rule → App
to_rules a rules = record a { top = record a.top { rules = rules } }

pub with_rules-more : (a : App) (r : Rule) (rules : List Rule) → with_rules (with_rule a r) rules ≡ with_rules a (r ∷ rules)
with_rules-more a r rules = ap (to_rules a) (append_assoc a.top.rules (r ∷ []) rules)

pub with_rules-none : (a : App) → with_rules a [] ≡ a
with_rules-none a = ap (to_rules a) (append-nil a.top.rules)

-- a parser with some options, and then with more
pub with_options-again : (a : App) (settings more : List Setting)
    → with_rules (with_rules a (map option_rule settings)) (map option_rule more) ≡ with_rules a (map option_rule (settings ++ more))
with_options-again a settings more =
    ap (to_rules a) (append_assoc a.top.rules (map option_rule settings) (map option_rule more)) ∙ ap (with_rules a) (sym (map-append option_rule settings more))
