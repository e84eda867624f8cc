-- What calls change in a history, and what they count.
use Rattle.std.specs.Prelude.{ℕ, ◌+◌, pos, Bool, List, [], map, slice_index_or, slice_set, count_by}
use Rattle.std.specs.List.{range_with_len}
use Rattle.lls_rule.specs.Rule.{successor}
use Rattle.lls_grid.specs.History.{History, rows_at, height_of, width_of, nine, cells_of_rows}

-- another cell at generation t, row y and column x
abbrev pub with_cell : History → ℕ → ℕ → ℕ → Bool → History
with_cell history t y x live = slice_set history t (slice_set (rows_at history t) y (slice_set (slice_index_or (rows_at history t) y []) x live))

-- the live cells of a generation
abbrev pub population : History → ℕ → ℕ
population history t = count_by (λ live. live) (cells_of_rows (rows_at history t))

-- another row y of generation t
abbrev pub with_row : History → ℕ → ℕ → List Bool → History
with_row history t y row = slice_set history t (slice_set (rows_at history t) y row)

-- what the cells of a generation become, row by row
abbrev pub successor_row : List Bool → History → ℕ → ℕ → List Bool
successor_row table history t y = map (λ x. successor table (nine table history t (pos y) (pos x))) (range_with_len 0 (width_of history))

abbrev pub successors : List Bool → History → ℕ → List (List Bool)
successors table history t = map (successor_row table history t) (range_with_len 0 (height_of history))

-- the generation after t follows from it
abbrev pub stepped : List Bool → History → ℕ → History
stepped table history t = slice_set history (t + 1) (successors table history t)
