-- Places in and around the grid, their order, and the first of them at which something isn't kept.
use Rattle.std.specs.Prelude.{◌≡◌, ◌<◌, ℕ, ℤ, pos, ◌<ℤ◌, ◌⊎◌, List, Option, slice_get}
use Rattle.lls_grid.specs.declared.sizes.GridPlace.{GridPlace}

-- a generation, and a row and a column that count from the top left cell of the grid
pub record Place : Type 0 where
  pub t : ℕ
  pub y : ℤ
  pub x : ℤ

abbrev pub of_cell : GridPlace → Place
of_cell cell = record { t = cell.t; y = pos cell.y; x = pos cell.x }

-- by generation, then by row, then by column
abbrev pub IsBefore : Place → Place → Type 0
IsBefore a b = (a.t < b.t) ⊎ ((a.t ≡ b.t) × ((a.y <ℤ b.y) ⊎ ((a.y ≡ b.y) × (a.x <ℤ b.x))))

-- of the places at which something is demanded, the first that doesn't keep it
pub record IsFirstBroken (IsDemanded Keeps : Place → Type 0) (place : Place) : Type 0 where
  pub demanded : IsDemanded place
  pub broken : Keeps place → ⊥
  pub before : (other : Place) → IsDemanded other → IsBefore other place → Keeps other

-- the first of a list, where it has one
abbrev pub first : {X : Type 0} → List X → Option X
first xs = slice_get xs 0
