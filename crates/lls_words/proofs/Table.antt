-- What holds of each option, by the table of all.
use Rattle.std.proofs.Common.{◌≡◌, ℕ, Bool, true, false, List, [], ◌∷◌, map, get_or, Option, Some, None, refl, ap, ◌∙◌}
use Rattle.std.specs.Prelude.{if◌then◌else◌}
use Rattle.std.specs.Str.{bytes_eq}
use Rattle.clap.specs.Lexer.{long_of}
use Rattle.clap.specs.Walk.{Rule, arg_by_long}
use Rattle.clap.specs.Simple.{built, filled, is_simple}
use Rattle.lls_words.specs.declared.command.Command.{Command}
use Rattle.lls_words.specs.declared.command.Command.TheVariants as commands
use Rattle.lls_words.specs.declared.command.Setting.{Setting}
use Rattle.lls_words.specs.declared.command.Setting.TheVariants as settings
use Rattle.lls_words.specs.Command.{all_options, option_name, takes}
use Rattle.lls_words.specs.Canonical.{option_word}
use Rattle.lls_words.specs.Parser.{parser_of, option_rule}

-- two functions that agree along the table agree at each option
pub by_table : {X : Type 0} (f g : Setting → X) → map f all_options ≡ map g all_options → (s : Setting) → f s ≡ g s
by_table f g same settings.Rule = ap (λ xs. get_or xs 0 (f settings.Rule)) same
by_table f g same settings.Low = ap (λ xs. get_or xs 1 (f settings.Rule)) same
by_table f g same settings.High = ap (λ xs. get_or xs 2 (f settings.Rule)) same
by_table f g same settings.Images = ap (λ xs. get_or xs 3 (f settings.Rule)) same
by_table f g same settings.Formula = ap (λ xs. get_or xs 4 (f settings.Rule)) same
by_table f g same settings.Edge = ap (λ xs. get_or xs 5 (f settings.Rule)) same
by_table f g same settings.Symmetry = ap (λ xs. get_or xs 6 (f settings.Rule)) same
by_table f g same settings.Period = ap (λ xs. get_or xs 7 (f settings.Rule)) same
by_table f g same settings.Exact = ap (λ xs. get_or xs 8 (f settings.Rule)) same
by_table f g same settings.Live = ap (λ xs. get_or xs 9 (f settings.Rule)) same
by_table f g same settings.Differ = ap (λ xs. get_or xs 10 (f settings.Rule)) same
by_table f g same settings.But = ap (λ xs. get_or xs 11 (f settings.Rule)) same
by_table f g same settings.As = ap (λ xs. get_or xs 12 (f settings.Rule)) same
by_table f g same settings.Budget = ap (λ xs. get_or xs 13 (f settings.Rule)) same
by_table f g same settings.Keep = ap (λ xs. get_or xs 14 (f settings.Rule)) same
by_table f g same settings.Manner = ap (λ xs. get_or xs 15 (f settings.Rule)) same
by_table f g same settings.First = ap (λ xs. get_or xs 16 (f settings.Rule)) same
by_table f g same settings.Crew = ap (λ xs. get_or xs 17 (f settings.Rule)) same
by_table f g same settings.Turns = ap (λ xs. get_or xs 18 (f settings.Rule)) same

-- how an option's word is read
pub long_of-option : (s : Setting) (value : List ℕ) → long_of (option_word s value) ≡ Some (option_name s, Some value)
long_of-option s value = by_table (λ s. long_of (option_word s value)) (λ s. Some (option_name s, Some value)) refl s

pub no_dashes : (s : Setting) (value : List ℕ) → bytes_eq (option_word s value) (45 ∷ 45 ∷ []) ≡ false
no_dashes s value = by_table (λ s. bytes_eq (option_word s value) (45 ∷ 45 ∷ [])) (λ _. false) refl s

abbrev pub rules : Command → List Rule
rules command = (built (parser_of command)).top.rules

abbrev pub found_if : Bool → Setting → Option Rule
found_if b s = if b then Some (filled (option_rule s)) else None

-- the parser of a command has the options that the command takes
abbrev pub Finds : Command → Type 0
Finds command = map (λ s. arg_by_long (rules command) (option_name s)) all_options ≡ map (λ s. found_if (takes command s) s) all_options

finds : (command : Command) → Finds command
finds commands.Check = refl
finds commands.Search = refl
finds commands.Judge = refl
finds commands.Cnf = refl
finds commands.Sat = refl
finds commands.Lrat = refl
finds commands.Rule = refl
finds commands.Make = refl
finds commands.Least = refl
finds commands.Most = refl
finds commands.Open = refl
finds commands.OpenCheck = refl
finds commands.Trim = refl

pub arg_by_long-option : (command : Command) (s : Setting) → takes command s ≡ true → arg_by_long (rules command) (option_name s) ≡ Some (filled (option_rule s))
arg_by_long-option command s taken =
    by_table (λ s. arg_by_long (rules command) (option_name s)) (λ s. found_if (takes command s) s) (finds command) s ∙ ap (λ b. found_if b s) taken

pub is_simple-parser : (command : Command) → is_simple (parser_of command) ≡ true
is_simple-parser commands.Check = refl
is_simple-parser commands.Search = refl
is_simple-parser commands.Judge = refl
is_simple-parser commands.Cnf = refl
is_simple-parser commands.Sat = refl
is_simple-parser commands.Lrat = refl
is_simple-parser commands.Rule = refl
is_simple-parser commands.Make = refl
is_simple-parser commands.Least = refl
is_simple-parser commands.Most = refl
is_simple-parser commands.Open = refl
is_simple-parser commands.OpenCheck = refl
is_simple-parser commands.Trim = refl
