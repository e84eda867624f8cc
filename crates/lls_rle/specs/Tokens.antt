-- The tokens of a line: digits that stand together, and other bytes one by one. Blanks stand between them and aren't any.
use Rattle.std.specs.Prelude.{ℕ, ◌+◌, ◌&&◌, Bool, false, if◌then◌else◌, List, [], ◌∷◌}
use Rattle.std.specs.Char.{is_ascii_digit}
use Rattle.lls_text.specs.Words.{is_blank}

-- a token, and the line and the column of its first byte
pub record PlacedToken : Type 0 where
  pub line : ℕ
  pub column : ℕ
  pub text : List ℕ

abbrev pub begins_digit : List ℕ → Bool
begins_digit [] = false
begins_digit (b ∷ bs) = is_ascii_digit b

-- a digit before the token that follows at once
abbrev pub before_token : ℕ → ℕ → ℕ → List PlacedToken → List PlacedToken
before_token line column b [] = record { line = line; column = column; text = b ∷ [] } ∷ []
before_token line column b (token ∷ tokens) = record { line = line; column = column; text = b ∷ token.text } ∷ tokens

abbrev pub before_tokens : ℕ → ℕ → ℕ → Bool → List PlacedToken → List PlacedToken
before_tokens line column b joined tokens =
    if is_blank b then tokens else
    if joined then before_token line column b tokens else record { line = line; column = column; text = b ∷ [] } ∷ tokens

-- the tokens of bytes of which the first has a column
abbrev pub tokens_from : ℕ → ℕ → List ℕ → List PlacedToken
tokens_from line column [] = []
tokens_from line column (b ∷ bs) = before_tokens line column b (is_ascii_digit b && begins_digit bs) (tokens_from line (column + 1) bs)

-- the tokens of a line
abbrev pub tokens_of : ℕ → List ℕ → List PlacedToken
tokens_of line bytes = tokens_from line 1 bytes
