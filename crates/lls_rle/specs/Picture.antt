-- The picture of items: where runs of live cells stand, whether they fit a grid, and which cells they make live.
use Rattle.std.specs.Prelude.{ℕ, ◌+◌, ◌==◌, ◌&&◌, nat_le, nat_lt, Bool, List, [], ◌∷◌, map, Option, None, Some, Result, Ok, Err, if◌then◌else◌}
use Rattle.std.specs.List.{list_any, range_with_len}
use Rattle.lls_grid.specs.History.{History}
use Rattle.lls_rle.specs.declared.rle_fault.RleFault.{RleFault}
use Rattle.lls_rle.specs.declared.rle_fault.RleFault.TheVariants.{BadTag, TooWide, TooHigh, NoEnd}
use Rattle.lls_rle.specs.declared.item.Tag.{Tag}
use Rattle.lls_rle.specs.declared.item.Tag.TheVariants.{Dead, Live, RowEnd}
use Rattle.lls_rle.specs.declared.item.Item.{Item}
use Rattle.lls_rle.specs.Items.{Items, Ending, ended, unended, stray}

-- live cells of a row, from a column on
pub record Run : Type 0 where
  pub row : ℕ
  pub column : ℕ
  pub count : ℕ

-- the runs of an item at a place and of those behind it, which stand further right or further down
abbrev pub with_item : ℕ → ℕ → ℕ → Tag → (ℕ → ℕ → List Run) → List Run
with_item row column count Dead rest = rest row (column + count)
with_item row column count Live rest = record { row = row; column = column; count = count } ∷ rest row (column + count)
with_item row column count RowEnd rest = rest (row + count) 0

-- the runs of items from a place on
abbrev pub runs_from : ℕ → ℕ → List Item → List Run
runs_from row column [] = []
runs_from row column (item ∷ items) = with_item row column item.count item.tag (λ y x. runs_from y x items)

-- why a run doesn't fit a grid
abbrev pub misfit : ℕ → ℕ → Run → Option RleFault
misfit height width run =
    if nat_le height run.row then Some (TooHigh run.row) else
    if nat_lt width (run.column + run.count) then Some (TooWide run.row) else None

abbrev pub or_else : Option RleFault → Option RleFault → Option RleFault
or_else None later = later
or_else (Some fault) later = Some fault

-- why the first run doesn't fit that doesn't
abbrev pub first_misfit : ℕ → ℕ → List Run → Option RleFault
first_misfit height width [] = None
first_misfit height width (run ∷ runs) = or_else (misfit height width run) (first_misfit height width runs)

abbrev pub covers : ℕ → ℕ → Run → Bool
covers y x run = (run.row == y) && (nat_le run.column x && nat_lt x (run.column + run.count))

-- one generation, whose live cells are those of the runs
abbrev pub picture : ℕ → ℕ → List Run → History
picture height width runs = map (λ y. map (λ x. list_any (covers y x) runs) (range_with_len 0 width)) (range_with_len 0 height) ∷ []

-- the history, where `!` ends the items
abbrev pub at_ending : History → Ending → Result History RleFault
at_ending history ended = Ok history
at_ending history unended = Err NoEnd
at_ending history (stray line column) = Err (BadTag line column)

abbrev pub unless_misfit : Option RleFault → Result History RleFault → Result History RleFault
unless_misfit None answer = answer
unless_misfit (Some fault) answer = Err fault

-- the picture of items that fit a grid, or their first fault
abbrev pub pictured : ℕ → ℕ → Items → Result History RleFault
pictured height width all =
    let runs = runs_from 0 0 all.items in
    unless_misfit (first_misfit height width runs) (at_ending (picture height width runs) all.ending)
