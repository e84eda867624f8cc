-- What a text of pictures says of a size: the patterns of its pictures, one after another, or its first fault. Each picture has a header and a
-- body up to `!`; what stands behind that in its line says nothing, as in a text of one picture.
use Rattle.std.specs.Prelude.{ℕ, ◌+◌, ◌*◌, ◌||◌, nat_le, nat_lt, Bool, List, [], ◌∷◌, ◌++◌, length, Option, None, Some, Result, Ok, Err, if◌then◌else◌}
use Rattle.lls_base.specs.Results.{and_then}
use Rattle.lls_text.specs.Lines.{lines_of, is_blank_line}
use Rattle.lls_grid.specs.History.{History, cells_of_rows, rows_at}
use Rattle.lls_grid.specs.declared.patterns.TheConstants.Patterns.{MOST}
use Rattle.lls_rle.specs.declared.pictures.TheConstants.{MOST_CELLS}
use Rattle.lls_rle.specs.declared.rle_fault.RleFault.{RleFault}
use Rattle.lls_rle.specs.declared.rle_fault.RleFault.TheVariants.{NoHeader, BadTag, TooWide, TooHigh, NoEnd}
use Rattle.lls_rle.specs.declared.pictures_fault.PicturesFault.{PicturesFault}
use Rattle.lls_rle.specs.declared.pictures_fault.PicturesFault.TheVariants.{Picture, TooMany}
use Rattle.lls_rle.specs.Tokens.{PlacedToken}
use Rattle.lls_rle.specs.Header.{is_header}
use Rattle.lls_rle.specs.Items.{items_of}
use Rattle.lls_rle.specs.Picture.{pictured}
use Rattle.lls_rle.specs.Reading.{is_comment, tokens_of_line}

-- the patterns of the pictures that have ended, each its cells in the order row, column; and the tokens so far of the one that goes on, if any does
pub record Pictures : Type 0 where
  pub ended : List (List Bool)
  pub begun : Option (List PlacedToken)

-- none yet
abbrev pub no_pictures : Pictures
no_pictures = record { ended = []; begun = None }

-- the next picture isn't read
abbrev pub unread : {X : Type 0} → Pictures → RleFault → Result X PicturesFault
unread pictures fault = Err (Picture (length pictures.ended) fault)

-- one picture more is one too many, or has one cell too many
abbrev pub is_full : ℕ → ℕ → Pictures → Bool
is_full height width pictures = nat_le MOST (length pictures.ended) || nat_lt MOST_CELLS (width * height * (length pictures.ended + 1))

-- a header begins a picture
abbrev pub begin : ℕ → ℕ → Pictures → Result Pictures PicturesFault
begin height width pictures =
    if is_full height width pictures then Err (TooMany (length pictures.ended + 1)) else Ok (record { ended = pictures.ended; begun = Some [] })

-- a line that stands in no picture: a comment, a blank line, or a header
abbrev pub line_between : ℕ → ℕ → List ℕ → Pictures → Result Pictures PicturesFault
line_between height width line pictures =
    if is_comment line then Ok pictures else
    if is_blank_line line then Ok pictures else
    if is_header line then begin height width pictures else unread pictures NoHeader

-- what a picture comes to whose tokens so far say that: it has ended, or goes on, or isn't read
abbrev pub come_to : Pictures → List PlacedToken → Result History RleFault → Result Pictures PicturesFault
come_to pictures tokens (Ok history) = Ok (record { ended = pictures.ended ++ cells_of_rows (rows_at history 0) ∷ []; begun = None })
come_to pictures tokens (Err NoEnd) = Ok (record { ended = pictures.ended; begun = Some tokens })
come_to pictures tokens (Err NoHeader) = unread pictures NoHeader
come_to pictures tokens (Err (BadTag line column)) = unread pictures (BadTag line column)
come_to pictures tokens (Err (TooWide row)) = unread pictures (TooWide row)
come_to pictures tokens (Err (TooHigh row)) = unread pictures (TooHigh row)

-- a line of a picture that goes on
abbrev pub line_within : ℕ → ℕ → ℕ → List ℕ → Pictures → List PlacedToken → Result Pictures PicturesFault
line_within height width number line pictures tokens =
    let more = tokens ++ tokens_of_line number line in come_to pictures more (pictured height width (items_of more))

-- one more line
abbrev pub line_by : ℕ → ℕ → ℕ → List ℕ → Pictures → Option (List PlacedToken) → Result Pictures PicturesFault
line_by height width number line pictures None = line_between height width line pictures
line_by height width number line pictures (Some tokens) = line_within height width number line pictures tokens

abbrev pub line_pictured : ℕ → ℕ → ℕ → List ℕ → Pictures → Result Pictures PicturesFault
line_pictured height width number line pictures = line_by height width number line pictures pictures.begun

-- the end of the text, which none may go on behind
abbrev pub all_by : Pictures → Option (List PlacedToken) → Result (List (List Bool)) PicturesFault
all_by pictures None = Ok pictures.ended
all_by pictures (Some tokens) = unread pictures NoEnd

-- the patterns of the lines from a number on
abbrev pub lines_pictured : ℕ → ℕ → ℕ → List (List ℕ) → Pictures → Result (List (List Bool)) PicturesFault
lines_pictured height width number [] pictures = all_by pictures pictures.begun
lines_pictured height width number (line ∷ lines) pictures = and_then (line_pictured height width number line pictures) (lines_pictured height width (number + 1) lines)

-- the patterns of a text
unfoldable pub pictures_of : ℕ → ℕ → List ℕ → Result (List (List Bool)) PicturesFault
pictures_of height width bytes = lines_pictured height width 1 (lines_of bytes) no_pictures
