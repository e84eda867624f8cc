-- The image of a history under a motion of the grid, and where the image of a cell stands.
use Rattle.std.specs.Prelude.{ℕ, ◌/◌, ◌%◌, Bool, false, unwrap_or, unsigned_abs, length, map}
use Rattle.std.specs.List.{range_with_len}
use Rattle.lls_grid.specs.declared.sizes.Sizes.{Sizes}
use Rattle.lls_grid.specs.declared.sizes.GridPlace.{GridPlace}
use Rattle.lls_grid.specs.Sizes.{index_of}
use Rattle.lls_grid.specs.History.{History, place_cell}
use Rattle.lls_symmetry.specs.declared.motion.Motion.{Motion}
use Rattle.lls_symmetry.specs.Motion.{Place, cell_place, image_of}

-- the cell at a place of a generation; outside the grid there is a dead one
abbrev pub cell_of : History → ℕ → Place → Bool
cell_of history t place = unwrap_or (place_cell history t place.y place.x) false

-- of each cell of a grid of these sizes, the value of its image
unfoldable pub image : Motion → ℕ → ℕ → History → History
image motion height width history =
    map (λ t. map (λ y. map (λ x. cell_of history t (image_of motion height width (cell_place y x)))
    (range_with_len 0 width)) (range_with_len 0 height)) (range_with_len 0 (length history))

-- the cell that stands there in the order generation, row, column
abbrev pub place_at : Sizes → ℕ → GridPlace
place_at sizes k = record { t = k / sizes.width / sizes.height; y = k / sizes.width % sizes.height; x = k % sizes.width }

-- where its image stands
unfoldable pub image_index : Motion → Sizes → ℕ → ℕ
image_index motion sizes k =
    let from = place_at sizes k in
    let to = image_of motion sizes.height sizes.width (cell_place from.y from.x) in
    index_of sizes (record { t = from.t; y = unsigned_abs to.y; x = unsigned_abs to.x })
