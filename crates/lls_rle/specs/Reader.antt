-- For private contracts alone: what the reader has, and what the text says from there on.
use Rattle.std.specs.Prelude.{◌≡◌, ◌≤◌, ℕ, ◌+◌, ◌*◌, ◌||◌, Bool, true, false, List, [], ◌∷◌, length, map, slice_index_or, Result, Ok, Err, IfSome}
use Rattle.std.specs.List.{list_any, range_with_len}
use Rattle.lls_grid.specs.History.{History}
use Rattle.lls_grid.specs.declared.history.TheConstants.History.{MOST_HEIGHT, MOST_WIDTH}
use Rattle.lls_rle.specs.declared.rle_fault.RleFault.{RleFault}
use Rattle.lls_rle.specs.declared.reader.Reader.{Reader}
use Rattle.lls_rle.specs.Tokens.{PlacedToken}
use Rattle.lls_rle.specs.Items.{Items, items_behind}
use Rattle.lls_rle.specs.Picture.{Run, runs_from, first_misfit, covers, at_ending, unless_misfit}

-- a cell is live already, or some run makes it so
abbrev pub painted : ℕ → ℕ → List Bool → List Run → History
painted height width cells runs =
    map (λ y. map (λ x. slice_index_or cells (x + width * y) false || list_any (covers y x) runs) (range_with_len 0 width)) (range_with_len 0 height) ∷ []

-- what the runs of items from a place on make of the cells, or the first fault
abbrev pub painted_items : ℕ → ℕ → List Bool → ℕ → ℕ → Items → Result History RleFault
painted_items height width cells row column all =
    let runs = runs_from row column all.items in
    unless_misfit (first_misfit height width runs) (at_ending (painted height width cells runs) all.ending)

-- what items say, and tokens, read from here on
abbrev pub items_from : Reader → Items → Result History RleFault
items_from reader all = painted_items reader.height reader.width reader.cells.items reader.row reader.column all

abbrev pub answer_from : Reader → List PlacedToken → Result History RleFault
answer_from reader tokens = items_from reader (items_behind reader.count tokens)

-- what a step leads to: a fault, the end of the pattern, or what more tokens say
abbrev pub goes_on : Result Bool RleFault → Reader → List PlacedToken → Result History RleFault
goes_on (Err fault) reader tokens = Err fault
goes_on (Ok true) reader tokens = Ok (painted reader.height reader.width reader.cells.items [])
goes_on (Ok false) reader tokens = answer_from reader tokens

-- how many bytes all lines have
abbrev pub total : List (List ℕ) → ℕ
total [] = 0
total (line ∷ lines) = length line + total lines

-- what holds of a reader
pub record IsReader (reader : Reader) : Type 0 where
  pub height : (1 ≤ reader.height) × (reader.height ≤ MOST_HEIGHT)
  pub width : (1 ≤ reader.width) × (reader.width ≤ MOST_WIDTH)
  pub cell_each : length reader.cells.items ≡ reader.width * reader.height
  pub count : IfSome reader.count (λ count. (1 ≤ count) × (count ≤ 999999))
