-- The lines of a text.
use Rattle.std.specs.Prelude.{ℕ, ◌==◌, Bool, false, if◌then◌else◌, List, [], ◌∷◌, map, Option, None, Some}
use Rattle.std.specs.List.{find, list_all, onto_first}
use Rattle.std.specs.Str.Lines.{strip_carriage_return}
use Rattle.lls_text.specs.Words.{is_blank, is_solid}

-- LF
abbrev pub line_feed : ℕ
line_feed = 10

-- CR, which isn't part of a line where it stands at its end
abbrev pub carriage_return : ℕ
carriage_return = 13

abbrev pub is_line_feed : ℕ → Bool
is_line_feed byte = byte == line_feed

-- a line feed ends a line; the last line may have none
abbrev pub cut_lines : List ℕ → List (List ℕ)
cut_lines [] = []
cut_lines (b ∷ bs) = if is_line_feed b then [] ∷ cut_lines bs else onto_first b (cut_lines bs)

-- each line without the CR at its end
abbrev pub lines_of : List ℕ → List (List ℕ)
lines_of bytes = map strip_carriage_return (cut_lines bytes)

-- an empty line, or blanks alone
abbrev pub is_blank_line : List ℕ → Bool
is_blank_line line = list_all is_blank line

-- the first byte that isn't a blank is this one
abbrev pub is_first : ℕ → Option ℕ → Bool
is_first byte None = false
is_first byte (Some b) = b == byte

abbrev pub begins_with : ℕ → List ℕ → Bool
begins_with byte line = is_first byte (find is_solid line)
