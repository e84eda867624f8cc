-- The items of a command line behind its command: operands, and options with their values.
use Rattle.std.specs.Prelude.{ℕ, ◌+◌, ◌==◌, ◌&&◌, nat_lt, not, Bool, true, false, List, [], ◌∷◌, take, drop, position, Option, None, Some, if◌then◌else◌}

-- a dash, and the sign between an option's name and its value
abbrev pub is_dash : ℕ → Bool
is_dash byte = byte == 45

abbrev pub is_equals_sign : ℕ → Bool
is_equals_sign byte = byte == 61

-- a word that isn't empty and doesn't begin with a dash: an operand, or a value
abbrev pub is_bare : List ℕ → Bool
is_bare [] = false
is_bare (b ∷ bs) = not (is_dash b)

-- what stands behind the two dashes of an option, of which something does
abbrev pub option_text : List ℕ → Option (List ℕ)
option_text [] = None
option_text (a ∷ []) = None
option_text (a ∷ b ∷ []) = None
option_text (a ∷ b ∷ c ∷ text) = if is_dash a && is_dash b then Some (c ∷ text) else None

-- the shape of a word: an operand; an option with its value in the same word; an option alone; none of these
pub data WordShape : Type 0 where
  operand : WordShape
  inline : List ℕ → List ℕ → WordShape
  spaced : List ℕ → WordShape
  other : WordShape

-- an option's name, and its value behind the first equals sign, where there is one
abbrev pub named_shape : List ℕ → Option ℕ → WordShape
named_shape text None = spaced text
named_shape text (Some place) = inline (take place text) (drop (place + 1) text)

abbrev pub option_shape : Option (List ℕ) → WordShape
option_shape None = other
option_shape (Some text) = named_shape text (position is_equals_sign text)

abbrev pub shape_of : List ℕ → WordShape
shape_of word = if is_bare word then operand else option_shape (option_text word)

-- an item: an operand; an option by its name and its value, if it has one; a word that is neither. Each has its place
pub data Item : Type 0 where
  plain : ℕ → List ℕ → Item
  named : ℕ → List ℕ → Option (List ℕ) → Item
  odd : ℕ → Item

-- the item of a word by its shape and the word behind it
abbrev pub shaped : ℕ → List ℕ → Option (List ℕ) → WordShape → Item
shaped place word next operand = plain place word
shaped place word next (inline name value) = named place name (Some value)
shaped place word next (spaced name) = named place name next
shaped place word next other = odd place

abbrev pub item_of : ℕ → List ℕ → Option (List ℕ) → Item
item_of place word next = shaped place word next (shape_of word)

-- an option alone takes the word behind it as its value
abbrev pub is_spaced : WordShape → Bool
is_spaced operand = false
is_spaced (inline name value) = false
is_spaced (spaced name) = true
is_spaced other = false

abbrev pub takes_next : List ℕ → Bool
takes_next word = is_spaced (shape_of word)

-- how many words the item of a word takes, behind which stand that many
abbrev pub words_taken : List ℕ → ℕ → ℕ
words_taken word behind = if nat_lt 0 behind then (if takes_next word then 2 else 1) else 1

-- the items of words from a place on
abbrev pub items_of : ℕ → List (List ℕ) → List Item
items_of place [] = []
items_of place (word ∷ []) = item_of place word None ∷ []
items_of place (word ∷ next ∷ words) =
    item_of place word (Some next) ∷ (if takes_next word then items_of (place + 2) words else items_of (place + 1) (next ∷ words))
