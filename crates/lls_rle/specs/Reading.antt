-- What an RLE text says of a grid: the pattern, placed at the top left, or its first fault.
use Rattle.std.specs.Prelude.{ℕ, ◌+◌, ◌==◌, Bool, false, List, [], ◌∷◌, ◌++◌, Option, None, Some, Result, Err, if◌then◌else◌}
use Rattle.lls_text.specs.Lines.{lines_of, is_blank_line}
use Rattle.lls_grid.specs.History.{History}
use Rattle.lls_rle.specs.declared.rle_fault.RleFault.{RleFault}
use Rattle.lls_rle.specs.declared.rle_fault.RleFault.TheVariants.{NoHeader}
use Rattle.lls_rle.specs.Tokens.{PlacedToken, tokens_of}
use Rattle.lls_rle.specs.Header.{is_header}
use Rattle.lls_rle.specs.Items.{items_of}
use Rattle.lls_rle.specs.Picture.{pictured}

-- the first byte is `#`
abbrev pub is_comment : List ℕ → Bool
is_comment [] = false
is_comment (b ∷ bs) = b == 35

-- the tokens of a line; a comment has none
abbrev pub tokens_of_line : ℕ → List ℕ → List PlacedToken
tokens_of_line number line = if is_comment line then [] else tokens_of number line

-- the tokens of lines of which the first has a number
abbrev pub tokens_of_lines : ℕ → List (List ℕ) → List PlacedToken
tokens_of_lines number [] = []
tokens_of_lines number (line ∷ lines) = tokens_of_line number line ++ tokens_of_lines (number + 1) lines

-- the tokens behind the header, which is the first line that is neither a comment nor blank
abbrev pub body_of : ℕ → List (List ℕ) → Option (List PlacedToken)
body_of number [] = None
body_of number (line ∷ lines) =
    if is_comment line then body_of (number + 1) lines else
    if is_blank_line line then body_of (number + 1) lines else
    if is_header line then Some (tokens_of_lines (number + 1) lines) else None

abbrev pub read_body : ℕ → ℕ → Option (List PlacedToken) → Result History RleFault
read_body height width None = Err NoHeader
read_body height width (Some tokens) = pictured height width (items_of tokens)

abbrev pub rle_of : ℕ → ℕ → List ℕ → Result History RleFault
rle_of height width bytes = read_body height width (body_of 1 (lines_of bytes))
