-- The reading of a search file: its value, or its first fault.
use Rattle.std.specs.Prelude.{ℕ, ◌+◌, ◌==◌, nat_lt, Bool, not, if◌then◌else◌, List, [], ◌∷◌, ◌++◌, length, map, filter, flat_map, sum_by, slice_index_or, Option, None, Some, Result, Ok, Err}
use Rattle.std.specs.List.{filter_map, position_or_len}
use Rattle.lls_base.specs.Results.{and_then}
use Rattle.lls_text.specs.Lines.{lines_of, is_blank_line, begins_with}
use Rattle.lls_grid.specs.declared.history.TheConstants.History.{MOST_GENERATIONS, MOST_HEIGHT, MOST_WIDTH, MOST_CELLS}
use Rattle.lls_search_file.specs.declared.cell.Cell.{Cell}
use Rattle.lls_search_file.specs.declared.cell.Kind.{Kind}
use Rattle.lls_search_file.specs.declared.cell.Kind.TheVariants.{Dead, Live, Free, Named, Negated}
use Rattle.lls_search_file.specs.declared.posed_fault.PosedFault.{PosedFault}
use Rattle.lls_search_file.specs.declared.posed_fault.PosedFault.TheVariants.{Empty, Ragged, Sizes, TooWide, TooHigh, TooMany, TooManyCells}
use Rattle.lls_search_file.specs.Posed.{PosedFile, same_text}
use Rattle.lls_search_file.specs.Words.{Said, dead, live, free, named, negated, Word, row_of}

-- lists one behind another
abbrev pub joined : {X : Type 0} → List (List X) → List X
joined lists = flat_map (λ list. list) lists

-- the rows so far, each the words of its cells: those of the generations that have ended, and those of the one that goes on
pub record Rows : Type 0 where
  pub ended : List (List (List Word))
  pub begun : List (List Word)

-- none yet
abbrev pub no_rows : Rows
no_rows = record { ended = []; begun = [] }

-- all rows in order
abbrev pub all_rows : Rows → List (List Word)
all_rows rows = joined rows.ended ++ rows.begun

-- a fault where a test finds it
abbrev pub fault_if : Bool → PosedFault → Option PosedFault
fault_if bad fault = if bad then Some fault else None

-- the first fault of a list, or the value where there is none
abbrev pub unless_fault : {X : Type 0} → List (Option PosedFault) → X → Result X PosedFault
unless_fault [] value = Ok value
unless_fault (None ∷ faults) value = unless_fault faults value
unless_fault (Some fault ∷ faults) value = Err fault

-- a row of too many words
abbrev pub too_wide : List Word → Option PosedFault
too_wide row = fault_if (nat_lt MOST_WIDTH (length row)) (TooWide (length row))

-- a row that begins one generation too many
abbrev pub too_many : List (List (List Word)) → List (List Word) → Option PosedFault
too_many ended [] = fault_if (length ended == MOST_GENERATIONS) (TooMany (MOST_GENERATIONS + 1))
too_many ended (row ∷ rows) = None

-- a row with another number of words than the first row of all
abbrev pub ragged : ℕ → List (List Word) → List Word → Option PosedFault
ragged line [] row = None
ragged line (first ∷ rows) row = fault_if (not (length row == length first)) (Ragged line (length first) (length row))

-- one row too many for the generation that goes on: for the first, or one more than the first has
abbrev pub too_high : List (List (List Word)) → List (List Word) → Option PosedFault
too_high [] begun = fault_if (length begun == MOST_HEIGHT) (TooHigh (MOST_HEIGHT + 1))
too_high (first ∷ later) begun = fault_if (length begun == length first) (Sizes (length (first ∷ later)) (length first) (length first + 1))

-- rows of too many words together
abbrev pub too_many_cells : List (List Word) → Option PosedFault
too_many_cells rows = fault_if (nat_lt MOST_CELLS (sum_by length rows)) (TooManyCells (sum_by length rows))

-- what may be wrong with one more row, the first fault first
abbrev pub row_faults : ℕ → Rows → List Word → List (Option PosedFault)
row_faults line rows row =
    too_wide row ∷
    too_many rows.ended rows.begun ∷
    ragged line (all_rows rows) row ∷
    too_high rows.ended rows.begun ∷
    too_many_cells (all_rows rows ++ row ∷ []) ∷
    []

-- one more row, or its first fault
abbrev pub row_added : ℕ → Rows → List Word → Result Rows PosedFault
row_added line rows row = unless_fault (row_faults line rows row) (record { ended = rows.ended; begun = rows.begun ++ row ∷ [] })

-- a generation that ends with fewer rows than the first has
abbrev pub too_low : List (List (List Word)) → List (List Word) → Option PosedFault
too_low [] rows = None
too_low (first ∷ later) rows = fault_if (nat_lt (length rows) (length first)) (Sizes (length (first ∷ later)) (length first) (length rows))

-- the generations, where the one that goes on ends, if any does
abbrev pub generations_ended : List (List (List Word)) → List (List Word) → Result (List (List (List Word))) PosedFault
generations_ended ended [] = Ok ended
generations_ended ended (row ∷ rows) = unless_fault (too_low ended (row ∷ rows) ∷ []) (ended ++ (row ∷ rows) ∷ [])

-- `#`, which begins a comment
abbrev pub hash : ℕ
hash = 35

-- one more line: a comment, a line that separates generations, or a row
abbrev pub line_read : ℕ → List ℕ → Rows → Result Rows PosedFault
line_read number line rows =
    if begins_with hash line then Ok rows else
    if is_blank_line line then and_then (generations_ended rows.ended rows.begun) (λ ended. Ok (record { ended = ended; begun = [] })) else
    and_then (row_of number line) (row_added number rows)

-- the rows after the lines from a number on
abbrev pub lines_read : ℕ → List (List ℕ) → Rows → Result Rows PosedFault
lines_read number [] rows = Ok rows
lines_read number (line ∷ lines) rows = and_then (line_read number line rows) (lines_read (number + 1) lines)

-- the name that a word cites
abbrev pub name_said : Said → Option (List ℕ)
name_said dead = None
name_said live = None
name_said free = None
name_said (named name) = Some name
name_said (negated name) = Some name

-- each name once, in the order of first appearance
abbrev pub first_seen : List (List ℕ) → List (List ℕ)
first_seen [] = []
first_seen (name ∷ names) = name ∷ filter (λ other. not (same_text name other)) (first_seen names)

abbrev pub names_of : List Word → List (List ℕ)
names_of words = first_seen (filter_map (λ w. name_said w.says) words)

-- names are numbered from 0
abbrev pub kind_said : List (List ℕ) → Said → Kind
kind_said names dead = Dead
kind_said names live = Live
kind_said names free = Free
kind_said names (named name) = Named (position_or_len (same_text name) names)
kind_said names (negated name) = Negated (position_or_len (same_text name) names)

abbrev pub cell_said : List (List ℕ) → Word → Cell
cell_said names word = record { mark = word.mark; kind = kind_said names word.says }

-- the file of words in order, of these sizes
abbrev pub file_sized : ℕ → ℕ → ℕ → List Word → PosedFile
file_sized generations height width words = record {
  generations = generations;
  height = height;
  width = width;
  cells = map (cell_said (names_of words)) words;
  names = names_of words;
}

-- the file of generations: its height is that of the first one, its width that of the first row
abbrev pub file_read : List (List (List Word)) → Result PosedFile PosedFault
file_read [] = Err Empty
file_read (first ∷ later) =
    Ok (file_sized (length (first ∷ later)) (length first) (length (slice_index_or first 0 [])) (joined (joined (first ∷ later))))

-- the end of the text ends the generation that goes on
abbrev pub end_read : Rows → Result PosedFile PosedFault
end_read rows = and_then (generations_ended rows.ended rows.begun) file_read

-- the value of a search file, or its first fault
unfoldable pub posed_of : List ℕ → Result PosedFile PosedFault
posed_of bytes = and_then (lines_read 1 (lines_of bytes) no_rows) end_read
