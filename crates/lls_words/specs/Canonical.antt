-- The canonical words of a command: each given option as one word with its value, in the order of the table, then the operands.
use Rattle.std.specs.Prelude.{ℕ, ◌≡◌, true, length, All, List, [], ◌∷◌, ◌++◌, map, find, Option, None, Some}
use Rattle.std.specs.Option.{option_map}
use Rattle.lls_words.specs.declared.command.Command.{Command}
use Rattle.lls_words.specs.declared.command.Setting.{Setting}
use Rattle.lls_words.specs.Command.{same_setting, operand_count, option_name, options_of, takes}
use Rattle.lls_words.specs.Items.{is_bare}
use Rattle.lls_words.specs.Scan.{Given, Scanned}

-- an option and its value in one word
abbrev pub option_word : Setting → List ℕ → List ℕ
option_word setting value = 45 ∷ 45 ∷ option_name setting ++ 61 ∷ value

-- the value of an option, where it is given
abbrev pub value_of : List Given → Setting → Option (List ℕ)
value_of givens setting = option_map (λ given. given.value) (find (λ given. same_setting given.setting setting) givens)

abbrev pub word_of : Setting → Option (List ℕ) → List (List ℕ)
word_of setting None = []
word_of setting (Some value) = option_word setting value ∷ []

-- the given ones of these options, in their order
abbrev pub option_words : List Given → List Setting → List (List ℕ)
option_words givens [] = []
option_words givens (setting ∷ more) = word_of setting (value_of givens setting) ++ option_words givens more

abbrev pub canonical_words : Command → Scanned → List (List ℕ)
canonical_words command s = option_words s.givens (options_of command) ++ map (λ operand. operand.word) s.operands

-- operands and options that have canonical words
pub record FitsCanonical (command : Command) (s : Scanned) : Type 0 where
  pub taken : All (λ given. takes command given.setting ≡ true) s.givens
  -- no option is given twice
  pub once : All (λ given. value_of s.givens given.setting ≡ Some given.value) s.givens
  pub plain : All (λ operand. is_bare operand.word ≡ true) s.operands

-- canonical words, as many of them operands as the command has
pub record IsCanonical (command : Command) (s : Scanned) (words : List (List ℕ)) : Type 0 where
  pub fits : FitsCanonical command s
  pub count : length s.operands ≡ operand_count command
  pub said : words ≡ canonical_words command s
