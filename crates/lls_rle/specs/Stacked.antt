-- For private contracts alone: items are made from the last to the first, and counts stay small.
use Rattle.std.specs.Prelude.{◌≤◌, ℕ, Bool, false, List, [], ◌∷◌, slice_index_or}
use Rattle.lls_grid.specs.History.{History, rows_at}
use Rattle.lls_rle.specs.declared.item.Item.{Item}

-- each count is at least 1 and at most so much
abbrev pub AreSmall : ℕ → List Item → Type 0
AreSmall most [] = Unit {0}
AreSmall most (item ∷ items) = ((1 ≤ item.count) × (item.count ≤ most)) × AreSmall most items

-- a cell of a generation
abbrev pub cell_of : History → ℕ → ℕ → ℕ → Bool
cell_of history t y x = slice_index_or (slice_index_or (rows_at history t) y []) x false
