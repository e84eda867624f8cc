-- The reading of a list: patterns of one size, one after another as the generations of a search file are, or its first fault.
use Rattle.std.specs.Prelude.{◌≡◌, ◌≤◌, ◌<◌, ℕ, ◌+◌, ◌*◌, ◌==◌, ◌&&◌, nat_lt, Bool, true, false, not, if◌then◌else◌, List, [], ◌∷◌, ◌++◌, length, map, All, Option, None, Some, option_map, Result, Ok, Err}
use Rattle.std.specs.List.{position}
use Rattle.lls_base.specs.Results.{and_then}
use Rattle.lls_text.specs.Lines.{lines_of, is_blank_line, begins_with}
use Rattle.lls_grid.specs.declared.patterns.TheConstants.Patterns.{MOST}
use Rattle.lls_search_file.specs.declared.posed_fault.PosedFault.{PosedFault}
use Rattle.lls_search_file.specs.declared.posed_error.PosedError.{PosedError}
use Rattle.lls_search_file.specs.declared.posed_error.PosedError.TheVariants as posed
use Rattle.lls_search_file.specs.declared.list_fault.ListFault.{ListFault}
use Rattle.lls_search_file.specs.declared.list_fault.ListFault.TheVariants.{Text, Width, Height, NotPlain, TooMany}
use Rattle.lls_search_file.specs.declared.list_error.ListError.{ListError}
use Rattle.lls_search_file.specs.declared.list_error.ListError.TheVariants as list
use Rattle.lls_search_file.specs.Words.{Said, dead, live, free, named, negated, Word, row_of}
use Rattle.lls_search_file.specs.Reading.{hash}

-- the patterns that have ended, each its cells in the order row, column; of the one that goes on, its cells and how many rows it has
pub record Listing : Type 0 where
  pub ended : List (List Bool)
  pub begun : List Bool
  pub rows : ℕ

-- none yet
abbrev pub no_patterns : Listing
no_patterns = record { ended = []; begun = []; rows = 0 }

-- a word that says a dead or a live cell, and its value
abbrev pub is_value : Said → Bool
is_value dead = true
is_value live = true
is_value free = false
is_value (named name) = false
is_value (negated name) = false

abbrev pub is_live_said : Said → Bool
is_live_said dead = false
is_live_said live = true
is_live_said free = false
is_live_said (named name) = false
is_live_said (negated name) = false

abbrev pub is_plain_word : Word → Bool
is_plain_word word = if word.mark then false else is_value word.says

abbrev pub is_live_word : Word → Bool
is_live_word word = is_live_said word.says

-- a fault where a test finds it, and the first of several
abbrev pub fault_where : Bool → ListFault → Option ListFault
fault_where bad fault = if bad then Some fault else None

abbrev pub first_wrong : List (Option ListFault) → Option ListFault
first_wrong [] = None
first_wrong (None ∷ faults) = first_wrong faults
first_wrong (Some fault ∷ faults) = Some fault

abbrev pub unless_wrong : Option ListFault → Listing → Result Listing ListFault
unless_wrong None listing = Ok listing
unless_wrong (Some fault) listing = Err fault

-- a row that begins one pattern too many
abbrev pub too_many : Listing → Option ListFault
too_many listing = fault_where ((listing.rows == 0) && (length listing.ended == MOST)) (TooMany (MOST + 1))

-- what may be wrong with one more row: its width, one row too many, a cell that isn't plain, one pattern too many
abbrev pub row_wrongs : ℕ → ℕ → ℕ → Listing → List Word → List (Option ListFault)
row_wrongs height width line listing row =
    fault_where (not (length row == width)) (Width line width (length row)) ∷
    fault_where (listing.rows == height) (Height line height (height + 1)) ∷
    option_map (NotPlain line) (position (λ word. not (is_plain_word word)) row) ∷
    too_many listing ∷
    []

-- with the row, the pattern that goes on has its cells behind the others
abbrev pub with_cells : Listing → List Word → Listing
with_cells listing row = record { ended = listing.ended; begun = listing.begun ++ map is_live_word row; rows = listing.rows + 1 }

abbrev pub row_listed : ℕ → ℕ → ℕ → Listing → List Word → Result Listing ListFault
row_listed height width line listing row = unless_wrong (first_wrong (row_wrongs height width line listing row)) (with_cells listing row)

-- the pattern that goes on ends before a line, if any does
abbrev pub pattern_ended : ℕ → ℕ → Listing → Result Listing ListFault
pattern_ended height line listing =
    if listing.rows == 0 then Ok listing else
    unless_wrong (fault_where (nat_lt listing.rows height) (Height line height listing.rows)) (record { ended = listing.ended ++ listing.begun ∷ []; begun = []; rows = 0 })

-- the words of a row
abbrev pub words_in : Result (List Word) PosedFault → Result (List Word) ListFault
words_in (Ok words) = Ok words
words_in (Err fault) = Err (Text fault)

-- one more line: a comment, a line that separates patterns, or a row
abbrev pub line_listed : ℕ → ℕ → ℕ → List ℕ → Listing → Result Listing ListFault
line_listed height width number line listing =
    if begins_with hash line then Ok listing else
    if is_blank_line line then pattern_ended height number listing else
    and_then (words_in (row_of number line)) (row_listed height width number listing)

-- the patterns of the lines from a number on; the end of the text ends the one that goes on
abbrev pub lines_listed : ℕ → ℕ → ℕ → List (List ℕ) → Listing → Result (List (List Bool)) ListFault
lines_listed height width number [] listing = and_then (pattern_ended height number listing) (λ all. Ok all.ended)
lines_listed height width number (line ∷ lines) listing = and_then (line_listed height width number line listing) (lines_listed height width (number + 1) lines)

-- the patterns of a text
unfoldable pub list_of : ℕ → ℕ → List ℕ → Result (List (List Bool)) ListFault
list_of height width bytes = lines_listed height width 1 (lines_of bytes) no_patterns

-- how a list isn't read where a row isn't
abbrev pub list_error : PosedError → ListError
list_error (posed.Fault fault) = list.Fault (Text fault)
list_error posed.Memory = list.Memory

-- For private contracts alone: what has been read is of the size.
pub record IsListing (height width : ℕ) (listing : Listing) : Type 0 where
  pub sized : All (λ pattern. length pattern ≡ width * height) listing.ended
  pub begun : length listing.begun ≡ width * listing.rows
  pub rows : listing.rows ≤ height
  pub few : length listing.ended ≤ MOST
  pub room : 1 ≤ listing.rows → length listing.ended < MOST
