-- For private contracts alone: counting rows and cells in place of keeping them, and the words so far.
-- What a search file says stands in Reading; that counting gives the same is proved in proofs/Counting.
use Rattle.std.specs.Prelude.{ℕ, ◌+◌, ◌==◌, ◌&&◌, nat_lt, not, if◌then◌else◌, List, [], ◌∷◌, ◌++◌, length, Option, None, Some, Result, Ok, Err}
use Rattle.std.specs.Option.{option_or}
use Rattle.lls_base.specs.Results.{and_then}
use Rattle.lls_text.specs.Lines.{is_blank_line, begins_with}
use Rattle.lls_grid.specs.declared.history.TheConstants.History.{MOST_GENERATIONS, MOST_HEIGHT, MOST_WIDTH, MOST_CELLS}
use Rattle.lls_search_file.specs.declared.posed_fault.PosedFault.{PosedFault}
use Rattle.lls_search_file.specs.declared.posed_fault.PosedFault.TheVariants.{Empty, Ragged, Sizes, TooWide, TooHigh, TooMany, TooManyCells}
use Rattle.lls_search_file.specs.declared.shape.Shape.{Shape}
use Rattle.lls_search_file.specs.Posed.{PosedFile}
use Rattle.lls_search_file.specs.Words.{Word, row_of}
use Rattle.lls_search_file.specs.Reading.{hash, fault_if, unless_fault, file_sized}

-- what may be wrong with one more row of that many cells, by the sizes so far
abbrev pub too_wide : ℕ → Option PosedFault
too_wide found = fault_if (nat_lt MOST_WIDTH found) (TooWide found)

abbrev pub too_many : Shape → Option PosedFault
too_many s = fault_if (s.rows == 0 && s.ended == MOST_GENERATIONS) (TooMany (MOST_GENERATIONS + 1))

abbrev pub ragged : ℕ → ℕ → Option ℕ → Option PosedFault
ragged line found None = None
ragged line found (Some width) = fault_if (not (found == width)) (Ragged line width found)

abbrev pub too_high : ℕ → ℕ → Option ℕ → Option PosedFault
too_high rows ended None = fault_if (rows == MOST_HEIGHT) (TooHigh (MOST_HEIGHT + 1))
too_high rows ended (Some height) = fault_if (rows == height) (Sizes ended height (height + 1))

abbrev pub too_many_cells : ℕ → Option PosedFault
too_many_cells cells = fault_if (nat_lt MOST_CELLS cells) (TooManyCells cells)

abbrev pub row_faults : ℕ → ℕ → Shape → List (Option PosedFault)
row_faults line found s =
    too_wide found ∷
    too_many s ∷
    ragged line found s.width ∷
    too_high s.rows s.ended s.height ∷
    too_many_cells (s.cells + found) ∷
    []

-- the sizes with one more row, where it fits
abbrev pub row_counted : ℕ → Shape → Shape
row_counted found s = record { width = option_or s.width (Some found); height = s.height; ended = s.ended; rows = s.rows + 1; cells = s.cells + found }

-- the sizes with one more row of that many cells, or why it doesn't fit
abbrev pub with_row : ℕ → ℕ → Shape → Result Shape PosedFault
with_row line found s = unless_fault (row_faults line found s) (row_counted found s)

-- the generation that goes on has fewer rows than the first has
abbrev pub too_low : ℕ → ℕ → Option ℕ → Option PosedFault
too_low rows ended None = None
too_low rows ended (Some height) = fault_if (nat_lt rows height) (Sizes ended height rows)

-- the sizes where a generation that has rows ends
abbrev pub end_counted : Shape → Shape
end_counted s = record { width = s.width; height = option_or s.height (Some s.rows); ended = s.ended + 1; rows = 0; cells = s.cells }

-- the sizes where the generation that goes on ends, if any does
abbrev pub with_end : Shape → Result Shape PosedFault
with_end s = if s.rows == 0 then Ok s else unless_fault (too_low s.rows s.ended s.height ∷ []) (end_counted s)

-- no row yet
abbrev pub no_shape : Shape
no_shape = record { width = None; height = None; ended = 0; rows = 0; cells = 0 }

-- what the lines so far have given: sizes, and the cells in order
pub record Counts : Type 0 where
  pub shape : Shape
  pub words : List Word

abbrev pub with_words : ℕ → Counts → List Word → Result Counts PosedFault
with_words line counts words =
    and_then (with_row line (length words) counts.shape) (λ shape. Ok (record { shape = shape; words = counts.words ++ words }))

-- what one more line gives
abbrev pub line_taken : ℕ → List ℕ → Counts → Result Counts PosedFault
line_taken number line counts =
    if begins_with hash line then Ok counts else
    if is_blank_line line then and_then (with_end counts.shape) (λ shape. Ok (record { shape = shape; words = counts.words })) else
    and_then (row_of number line) (with_words number counts)

-- what the lines from a number on give
abbrev pub lines_taken : ℕ → List (List ℕ) → Counts → Result Counts PosedFault
lines_taken number [] counts = Ok counts
lines_taken number (line ∷ lines) counts = and_then (line_taken number line counts) (lines_taken (number + 1) lines)

-- the file of these words, where there are a width and a height
abbrev pub file_of : Option ℕ → Option ℕ → ℕ → List Word → Result PosedFile PosedFault
file_of None height ended words = Err Empty
file_of (Some width) None ended words = Err Empty
file_of (Some width) (Some height) ended words = Ok (file_sized ended height width words)

-- the end of the text ends the generation that goes on
abbrev pub at_end : Counts → Result PosedFile PosedFault
at_end counts = and_then (with_end counts.shape) (λ shape. file_of shape.width shape.height shape.ended counts.words)
