-- The first line of bytes that come in pieces, and what stands behind it.
use Rattle.std.specs.Prelude.{◌≡◌, ℕ, Bool, false, List, ◌∷◌, ◌++◌}
use Rattle.std.specs.List.{list_any}
use Rattle.lls_text.specs.Lines.{line_feed, is_line_feed}

-- whether a line ends there
abbrev pub has_line : List ℕ → Bool
has_line bytes = list_any is_line_feed bytes

-- the bytes are a line, LF and the rest, and the line has no LF
pub record IsFirstLine (bytes line rest : List ℕ) : Type 0 where
  pub whole : bytes ≡ line ++ line_feed ∷ rest
  pub one_line : has_line line ≡ false

-- the first line went from some bytes into others, behind those that stood there, and its LF is gone
pub record TakesLine (bytes bytes' into into' : List ℕ) : Type 0 where
  pub line : List ℕ
  pub first : IsFirstLine bytes line bytes'
  pub behind : into' ≡ into ++ line
