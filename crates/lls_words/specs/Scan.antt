-- The scan of a command line: its operands and its options with their values, or the first item at fault.
use Rattle.std.specs.Prelude.{ℕ, List, [], ◌∷◌, ◌++◌, Option, None, Some, Result, Ok, Err, if◌then◌else◌}
use Rattle.std.specs.List.{list_any}
use Rattle.lls_base.specs.Results.{and_then}
use Rattle.lls_words.specs.declared.command.Command.{Command}
use Rattle.lls_words.specs.declared.command.Setting.{Setting}
use Rattle.lls_words.specs.declared.error.WordsError.{WordsError}
use Rattle.lls_words.specs.declared.error.WordsError.TheVariants.{BadWord, UnknownOption, RepeatedOption, MissingValue}
use Rattle.lls_words.specs.Command.{setting_of, same_setting, takes}
use Rattle.lls_words.specs.Items.{Item, plain, named, odd, is_bare, items_of}

-- an operand: the place of its word, from 1, and the word
pub record Operand : Type 0 where
  pub place : ℕ
  pub word : List ℕ

-- an option that was given: the place of its word, from 1, and its value
pub record Given : Type 0 where
  pub place : ℕ
  pub setting : Setting
  pub value : List ℕ

-- the operands and options so far, from the left
pub record Scanned : Type 0 where
  pub operands : List Operand
  pub givens : List Given

abbrev pub nothing_scanned : Scanned
nothing_scanned = record { operands = []; givens = [] }

-- an option that the command takes and that wasn't given before
abbrev pub setting_at : Command → List Given → ℕ → Option Setting → Result Setting WordsError
setting_at command givens place None = Err (UnknownOption place)
setting_at command givens place (Some setting) =
    if takes command setting
    then (if list_any (λ given. same_setting given.setting setting) givens then Err (RepeatedOption place) else Ok setting)
    else Err (UnknownOption place)

-- a value that isn't empty and doesn't begin with a dash
abbrev pub value_at : ℕ → Option (List ℕ) → Result (List ℕ) WordsError
value_at place None = Err (MissingValue place)
value_at place (Some value) = if is_bare value then Ok value else Err (MissingValue place)

-- one item more, or its fault
abbrev pub with_item : Command → Scanned → Item → Result Scanned WordsError
with_item command s (plain place word) = Ok (record s { operands = s.operands ++ record { place = place; word = word } ∷ [] })
with_item command s (odd place) = Err (BadWord place)
with_item command s (named place name value) =
    and_then (setting_at command s.givens place (setting_of name)) (λ setting.
    and_then (value_at place value) (λ v. Ok (record s { givens = s.givens ++ record { place = place; setting = setting; value = v } ∷ [] })))

-- these items more, up to the first at fault
abbrev pub with_items : Command → Scanned → List Item → Result Scanned WordsError
with_items command s [] = Ok s
with_items command s (item ∷ items) = and_then (with_item command s item) (λ more. with_items command more items)

-- the words behind a command, of which the first has the place 2
abbrev pub scan : Command → List (List ℕ) → Result Scanned WordsError
scan command words = with_items command nothing_scanned (items_of 2 words)
