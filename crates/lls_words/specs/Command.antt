-- The tables of commands and options: what each is called, and which operands and options a command has.
use Rattle.std.specs.Prelude.{ℕ, Bool, List, [], ◌∷◌, ◌++◌, Option, codes, find, take}
use Rattle.std.specs.List.{list_any}
use Rattle.std.specs.Str.{bytes_eq}
use Rattle.lls_words.specs.declared.command.Command.{Command}
use Rattle.lls_words.specs.declared.command.Command.TheVariants as commands
use Rattle.lls_words.specs.declared.command.Setting.{Setting}
use Rattle.lls_words.specs.declared.command.Setting.TheVariants as settings

abbrev pub all_commands : List Command
all_commands =
    commands.Check ∷ commands.Search ∷ commands.Judge ∷ commands.Cnf ∷ commands.Sat ∷ commands.Lrat ∷ commands.Rule ∷ commands.Make
    ∷ commands.Least ∷ commands.Most ∷ commands.Open ∷ commands.OpenCheck ∷ commands.Trim ∷ []

abbrev pub command_name : Command → List ℕ
command_name commands.Check = codes "check"
command_name commands.Search = codes "search"
command_name commands.Judge = codes "judge"
command_name commands.Cnf = codes "cnf"
command_name commands.Sat = codes "sat"
command_name commands.Lrat = codes "lrat"
command_name commands.Rule = codes "rule"
command_name commands.Make = codes "make"
command_name commands.Least = codes "least"
command_name commands.Most = codes "most"
command_name commands.Open = codes "open"
command_name commands.OpenCheck = codes "opencheck"
command_name commands.Trim = codes "trim"

-- the command that has the name
abbrev pub command_of : List ℕ → Option Command
command_of name = find (λ command. bytes_eq (command_name command) name) all_commands

abbrev pub operand_count : Command → ℕ
operand_count commands.Check = 2
operand_count commands.Search = 2
operand_count commands.Judge = 2
operand_count commands.Cnf = 1
operand_count commands.Sat = 2
operand_count commands.Lrat = 2
operand_count commands.Rule = 1
operand_count commands.Make = 4
operand_count commands.Least = 2
operand_count commands.Most = 2
operand_count commands.Open = 2
operand_count commands.OpenCheck = 2
operand_count commands.Trim = 3

-- what the operands of a command are called, by their places
abbrev pub operand_names : Command → List (List ℕ)
operand_names command = take (operand_count command) (codes "operand-1" ∷ codes "operand-2" ∷ codes "operand-3" ∷ codes "operand-4" ∷ [])

-- a problem's rule, or the two that it is between
abbrev pub one_rule : List Setting
one_rule = settings.Rule ∷ []

abbrev pub two_rules : List Setting
two_rules = settings.Low ∷ settings.High ∷ []

-- which solutions a problem's formula leaves
abbrev pub image_options : List Setting
image_options = settings.Images ∷ []

-- the form of a problem's formula
abbrev pub formula_options : List Setting
formula_options = settings.Formula ∷ []

-- the demands of a problem
abbrev pub demand_options : List Setting
demand_options = settings.Edge ∷ settings.Symmetry ∷ settings.Period ∷ settings.Exact ∷ settings.Live ∷ settings.Differ ∷ settings.But ∷ []

-- what patterns are written in
abbrev pub pattern_options : List Setting
pattern_options = settings.As ∷ []

-- how far a search goes, and how it goes about it
abbrev pub effort_options : List Setting
effort_options = settings.Budget ∷ settings.Keep ∷ settings.Manner ∷ settings.First ∷ []

-- how many searchers take turns, and whose turn it is
abbrev pub crew_options : List Setting
crew_options = settings.Crew ∷ settings.Turns ∷ []

-- the options of a check by rules between two, besides these, and those of a search
abbrev pub loose_check_options : List Setting
loose_check_options = formula_options ++ demand_options ++ pattern_options

abbrev pub loose_search_options : List Setting
loose_search_options = loose_check_options ++ effort_options

-- those of a check by one rule, those of a search, and those of one by several searchers
abbrev pub check_options : List Setting
check_options = image_options ++ loose_check_options

abbrev pub search_options : List Setting
search_options = image_options ++ loose_search_options

abbrev pub crewed_options : List Setting
crewed_options = search_options ++ crew_options

abbrev pub all_options : List Setting
all_options = one_rule ++ two_rules ++ crewed_options

-- the options that say a command's rule, or the two rules that it is between
abbrev pub rule_options : Command → List Setting
rule_options commands.Check = one_rule
rule_options commands.Search = one_rule
rule_options commands.Judge = one_rule
rule_options commands.Cnf = one_rule
rule_options commands.Sat = []
rule_options commands.Lrat = []
rule_options commands.Rule = []
rule_options commands.Make = []
rule_options commands.Least = one_rule
rule_options commands.Most = one_rule
rule_options commands.Open = two_rules
rule_options commands.OpenCheck = two_rules
rule_options commands.Trim = []

-- a command's other options
abbrev pub other_options : Command → List Setting
other_options commands.Check = check_options
other_options commands.Search = crewed_options
other_options commands.Judge = demand_options ++ pattern_options
other_options commands.Cnf = check_options
other_options commands.Sat = effort_options
other_options commands.Lrat = []
other_options commands.Rule = []
other_options commands.Make = []
other_options commands.Least = search_options
other_options commands.Most = search_options
other_options commands.Open = loose_search_options
other_options commands.OpenCheck = loose_check_options
other_options commands.Trim = []

-- the options that a command takes
abbrev pub options_of : Command → List Setting
options_of command = rule_options command ++ other_options command

-- what an option is called, without its dashes
abbrev pub option_name : Setting → List ℕ
option_name settings.Rule = codes "rule"
option_name settings.Low = codes "low"
option_name settings.High = codes "high"
option_name settings.Images = codes "images"
option_name settings.Formula = codes "formula"
option_name settings.Edge = codes "edge"
option_name settings.Symmetry = codes "symmetry"
option_name settings.Period = codes "period"
option_name settings.Exact = codes "exact"
option_name settings.Live = codes "live"
option_name settings.Differ = codes "differ"
option_name settings.But = codes "but"
option_name settings.As = codes "as"
option_name settings.Budget = codes "budget"
option_name settings.Keep = codes "keep"
option_name settings.Manner = codes "manner"
option_name settings.First = codes "first"
option_name settings.Crew = codes "crew"
option_name settings.Turns = codes "turns"

-- the option that has the name
abbrev pub setting_of : List ℕ → Option Setting
setting_of name = find (λ setting. bytes_eq (option_name setting) name) all_options

-- options are the same by their names
abbrev pub same_setting : Setting → Setting → Bool
same_setting a b = bytes_eq (option_name a) (option_name b)

abbrev pub takes : Command → Setting → Bool
takes command setting = list_any (λ option. same_setting option setting) (options_of command)
