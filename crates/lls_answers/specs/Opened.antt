-- A search over the rules between two: what it says of a rule and a history.
use Rattle.std.specs.Prelude.{ℕ, ◌++◌, Bool, List, codes}
use Rattle.lls_grid.specs.History.{History}
use Rattle.lls_hensel.specs.Printing.{rule_text}
use Rattle.lls_answers.specs.PatternText.{pattern_text}

-- the rule's canonical text on a line, and behind it the history; pictures name that rule
abbrev pub opened_text : Bool → List Bool → History → List ℕ
opened_text rle rule history = rule_text rule ++ codes "\n" ++ pattern_text rle rule history
