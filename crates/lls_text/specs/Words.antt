-- The words of a line, which blanks separate.
use Rattle.std.specs.Prelude.{ℕ, ◌+◌, ◌==◌, ◌||◌, Bool, false, not, if◌then◌else◌, List, [], ◌∷◌}

-- a space or a tab
abbrev pub is_blank : ℕ → Bool
is_blank b = b == 32 || b == 9

abbrev pub is_solid : ℕ → Bool
is_solid b = not (is_blank b)

-- a word, and the column of its first byte
pub record PlacedWord : Type 0 where
  pub column : ℕ
  pub text : List ℕ

-- whether a word stands right at the begin
abbrev pub begins_solid : List ℕ → Bool
begins_solid [] = false
begins_solid (b ∷ bs) = is_solid b

-- a byte of a word before the words behind it: it is a word of its own, unless one follows at once
abbrev pub before_word : ℕ → ℕ → List PlacedWord → List PlacedWord
before_word column b [] = record { column = column; text = b ∷ [] } ∷ []
before_word column b (word ∷ words) = record { column = column; text = b ∷ word.text } ∷ words

abbrev pub before_words : ℕ → ℕ → Bool → List PlacedWord → List PlacedWord
before_words column b joined words =
    if is_blank b then words else
    if joined then before_word column b words else record { column = column; text = b ∷ [] } ∷ words

-- the words of a text whose first byte has a column
abbrev pub words_from : ℕ → List ℕ → List PlacedWord
words_from column [] = []
words_from column (b ∷ bs) = before_words column b (begins_solid bs) (words_from (column + 1) bs)

-- the words of a line
abbrev pub words_of : List ℕ → List PlacedWord
words_of line = words_from 1 line
