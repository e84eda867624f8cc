-- Histories of two-state cells on the square grid, the values of places in and around the grid, and neighbourhoods.
use Rattle.std.specs.Prelude.{◌≡◌, ◌≤◌, ℕ, ◌+◌, ◌*◌, ℤ, pos, negsuc, ◌+ℤ◌, ◌-ℤ◌, Bool, true, false, List, [], ◌∷◌, length, map, Option, None, unwrap_or, replicate, slice_get, slice_index_or, ◌==◌, ◌&&◌}
use Rattle.std.specs.List.{list_all, flat_map, range_with_len}
use Rattle.lls_rule.specs.Rule.{background}
use Rattle.lls_grid.specs.declared.history.TheConstants.History.{MOST_GENERATIONS, MOST_HEIGHT, MOST_WIDTH, MOST_CELLS}
use Rattle.lls_grid.specs.declared.sizes.Sizes.{Sizes}
use Rattle.lls_grid.specs.Sizes.{cell_count}

-- generations, each of rows from the top, each of cells from the left, live or dead
abbrev pub History : Type 0
History = List (List (List Bool))

-- every generation has that many rows of that many cells
abbrev pub has_shape : ℕ → ℕ → List (List Bool) → Bool
has_shape height width rows = (length rows == height) && list_all (λ row. length row == width) rows

abbrev pub HasSizes : ℕ → ℕ → ℕ → History → Type 0
HasSizes generations height width history =
    (length history ≡ generations) × (list_all (has_shape height width) history ≡ true)

-- the sizes of a history whose generations are alike
abbrev pub height_of : History → ℕ
height_of history = length (slice_index_or history 0 [])

abbrev pub width_of : History → ℕ
width_of history = length (slice_index_or (slice_index_or history 0 []) 0 [])

abbrev pub sizes_of : History → Sizes
sizes_of history = record { generations = length history; height = height_of history; width = width_of history }

-- the rows of a generation, and a row of it; past the end there is none
abbrev pub rows_at : History → ℕ → List (List Bool)
rows_at history t = slice_index_or history t []

-- the cell inside the grid at generation t, row y and column x, from 0
abbrev pub cell_at : History → ℕ → ℕ → ℕ → Option Bool
cell_at history t y x = slice_get (slice_index_or (rows_at history t) y []) x

-- the cell at any place, where there is one
abbrev pub place_cell : History → ℕ → ℤ → ℤ → Option Bool
place_cell history t (pos y) (pos x) = cell_at history t y x
place_cell history t (pos y) (negsuc x) = None
place_cell history t (negsuc y) (pos x) = None
place_cell history t (negsuc y) (negsuc x) = None

-- the value of any place: the cell inside the grid, the generation's background outside
abbrev pub at : List Bool → History → ℕ → ℤ → ℤ → Bool
at table history t y x = unwrap_or (place_cell history t y x) (background table t)

-- three neighbours in a row
abbrev pub three : List Bool → History → ℕ → ℤ → ℤ → List Bool → List Bool
three table history t y x rest =
    at table history t y (x -ℤ pos 1) ∷ at table history t y x ∷ at table history t y (x +ℤ pos 1) ∷ rest

-- the neighbourhood of a place: nine values from top left to bottom right
abbrev pub nine : List Bool → History → ℕ → ℤ → ℤ → List Bool
nine table history t y x =
    three table history t (y -ℤ pos 1) x (three table history t y x (three table history t (y +ℤ pos 1) x []))

-- the cells of a generation and of a history in the order generation, row, column
abbrev pub cells_of_rows : List (List Bool) → List Bool
cells_of_rows rows = flat_map (λ row. row) rows

abbrev pub cells_of : History → List Bool
cells_of history = flat_map cells_of_rows history

-- what the type of a history keeps: generations alike, and sizes within the limits
pub record IsHistory (history : History) : Type 0 where
  pub sizes : HasSizes (length history) (height_of history) (width_of history) history
  pub generations : (1 ≤ length history) × (length history ≤ MOST_GENERATIONS)
  pub height : (1 ≤ height_of history) × (height_of history ≤ MOST_HEIGHT)
  pub width : (1 ≤ width_of history) × (width_of history ≤ MOST_WIDTH)
  pub most : length (cells_of history) ≤ MOST_CELLS

-- a history of these sizes whose cells are all dead
abbrev pub dead : ℕ → ℕ → ℕ → History
dead generations height width = replicate generations (replicate height (replicate width false))

-- the cells in that order, folded into rows and generations
unfoldable pub folded : ℕ → ℕ → ℕ → List Bool → History
folded generations height width cells =
    map (λ t. map (λ y. map (λ x. slice_index_or cells (x + width * (y + height * t)) false) (range_with_len 0 width)) (range_with_len 0 height)) (range_with_len 0 generations)

-- sizes within the limits, and a cell for each place
pub record IsShaped (sizes : Sizes) (cells : List Bool) : Type 0 where
  pub generations : (1 ≤ sizes.generations) × (sizes.generations ≤ MOST_GENERATIONS)
  pub height : (1 ≤ sizes.height) × (sizes.height ≤ MOST_HEIGHT)
  pub width : (1 ≤ sizes.width) × (sizes.width ≤ MOST_WIDTH)
  pub count : length cells ≡ cell_count sizes
  pub most : length cells ≤ MOST_CELLS
