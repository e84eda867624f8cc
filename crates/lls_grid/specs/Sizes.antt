-- The sizes of a grid, its cells, and where each stands in the order generation, row, column.
use Rattle.std.specs.Prelude.{◌<◌, ℕ, ◌+◌, ◌*◌}
use Rattle.lls_grid.specs.declared.sizes.Sizes.{Sizes}
use Rattle.lls_grid.specs.declared.sizes.GridPlace.{GridPlace}

-- how many cells all generations have
abbrev pub cell_count : Sizes → ℕ
cell_count sizes = sizes.width * (sizes.height * sizes.generations)

-- the place is a cell of the grid
pub record IsInside (sizes : Sizes) (place : GridPlace) : Type 0 where
  pub generation : place.t < sizes.generations
  pub row : place.y < sizes.height
  pub column : place.x < sizes.width

-- where the cell stands
abbrev pub index_of : Sizes → GridPlace → ℕ
index_of sizes place = place.x + sizes.width * (place.y + sizes.height * place.t)
