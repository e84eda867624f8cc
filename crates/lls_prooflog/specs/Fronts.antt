-- For private contracts alone: what a text begins with.
use Rattle.std.specs.Prelude.{◌≡◌, ◌≤◌, ℕ, Bool, true, not, ◌&&◌, ◌==◌, List, length, take, drop, slice_index, Option, Some, None, if◌then◌else◌, nat_lt}
use Rattle.std.specs.List.{list_all, position_or_len}
use Rattle.std.specs.Char.{is_ascii_digit}
use Rattle.std.specs.Str.Parse.{digits_value}
use Rattle.lls_text.specs.Digits.{is_digits}
use Rattle.lls_text.specs.Words.{is_blank, is_solid, begins_solid}

-- what stands behind the blanks
abbrev pub behind_blanks : List ℕ → List ℕ
behind_blanks text = drop (position_or_len is_solid text) text

-- the word that stands first, and what stands behind it
abbrev pub first_word : List ℕ → List ℕ
first_word text = take (position_or_len is_blank text) text

abbrev pub behind_word : List ℕ → List ℕ
behind_word text = drop (position_or_len is_blank text) text

-- the byte d, which is a word alone
abbrev pub letter_d : ℕ
letter_d = 100

abbrev pub is_d_first : List ℕ → Bool
is_d_first text = nat_lt 0 (length text) && (slice_index text 0 == letter_d && not (begins_solid (drop 1 text)))

abbrev pub behind_d : List ℕ → Option (List ℕ)
behind_d text = if is_d_first text then Some (drop 1 text) else None

-- so many first bytes are digits, which write the number
pub record AreDigits (text : List ℕ) (count size : ℕ) : Type 0 where
  pub within : count ≤ length text
  pub digits : list_all is_ascii_digit (take count text) ≡ true
  pub value : size ≡ digits_value 10 (take count text)

-- at least one digit, and digits alone, which write the number
pub record IsSize (word : List ℕ) (size : ℕ) : Type 0 where
  pub digits : is_digits word ≡ true
  pub value : size ≡ digits_value 10 word
