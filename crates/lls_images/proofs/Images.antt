-- The image of a history: its sizes, the values of its places, and its cells in order.
use Rattle.std.proofs.Common.{◌≡◌, ◌<◌, ℕ, ◌+◌, ◌*◌, pos, unsigned_abs, Bool, true, false, List, [], length, map, get_or, slice_get, Some, sym, ap, ◌∙◌, subst, arith, ◌==◌}
use Rattle.std.specs.Prelude.{unwrap_or}
use Rattle.std.specs.List.{range_with_len}
use Rattle.std.proofs.lemmas.Bool.{and_from, eq-eqb}
use Rattle.std.proofs.lemmas.List.FromFn.{length-map-range_with_len, get_or-map-range_with_len}
use Rattle.std.proofs.lemmas.Option.{slice_get-get_or}
use Rattle.lls_rule.specs.Rule.{background}
use Rattle.lls_grid.specs.declared.sizes.Sizes.{Sizes}
use Rattle.lls_grid.specs.Sizes.{cell_count}
use Rattle.lls_grid.specs.History.{History, HasSizes, has_shape, cell_at, at, cells_of, rows_at}
use Rattle.lls_grid.proofs.Folded.{list_all_range}
use Rattle.lls_grid.proofs.InOrder.{cell_at-in_order}
use Rattle.lls_symmetry.specs.declared.motion.Motion.{Motion}
use Rattle.lls_symmetry.specs.Motion.{Place, IsOnGrid, image_of, cell_place, exchanges}
use Rattle.lls_symmetry.proofs.Grids.{image-on_grid}
use Rattle.lls_symmetry.proofs.Symmetric.{cell_place-on_grid, row-on_grid, IsOnGrid-cell}
use Rattle.lls_images.specs.Image.{cell_of, image, place_at, image_index}
use Rattle.lls_images.proofs.Places.{IsInside-place_at, index_of-place_at}

-- a cell, a row and the rows of a generation of the image
abbrev cell_image : Motion → ℕ → ℕ → History → ℕ → ℕ → ℕ → Bool
cell_image motion height width history t y x = cell_of history t (image_of motion height width (cell_place y x))

abbrev row_image : Motion → ℕ → ℕ → History → ℕ → ℕ → List Bool
row_image motion height width history t y = map (cell_image motion height width history t y) (range_with_len 0 width)

abbrev pub rows_image : Motion → ℕ → ℕ → History → ℕ → List (List Bool)
rows_image motion height width history t = map (row_image motion height width history t) (range_with_len 0 height)

shape_of_rows : (motion : Motion) (height width : ℕ) (history : History) (t : ℕ) → has_shape height width (rows_image motion height width history t) ≡ true
shape_of_rows motion height width history t =
    and_from _ _ (eq-eqb _ _ (length-map-range_with_len (row_image motion height width history t) 0 height))
    (list_all_range (λ row. length row == width) (row_image motion height width history t) 0 height
    (λ y. eq-eqb _ _ (length-map-range_with_len (cell_image motion height width history t y) 0 width)))

pub length-image : (motion : Motion) (height width : ℕ) (history : History) → length (image motion height width history) ≡ length history
unfolding image
length-image motion height width history = length-map-range_with_len (rows_image motion height width history) 0 (length history)

pub rows_at-image : (motion : Motion) (height width : ℕ) (history : History) (t : ℕ) → t < length history → rows_at (image motion height width history) t ≡ rows_image motion height width history t
unfolding image
rows_at-image motion height width history t t_in = get_or-map-range_with_len (rows_image motion height width history) 0 (length history) t t [] t_in (omega arith)

-- it has the history's sizes
pub HasSizes-image : (motion : Motion) (generations height width : ℕ) (history : History) → HasSizes generations height width history
    → HasSizes generations height width (image motion height width history)
unfolding image
HasSizes-image motion generations height width history sizes = (
  length-image motion height width history ∙ sizes.0,
  list_all_range (has_shape height width) (rows_image motion height width history) 0 (length history) (shape_of_rows motion height width history),
)

-- a cell has the value of its image
pub cell_at-image : (motion : Motion) (height width : ℕ) (history : History) (t y x : ℕ) → t < length history → y < height → x < width
    → cell_at (image motion height width history) t y x ≡ Some (cell_of history t (image_of motion height width (cell_place y x)))
cell_at-image motion height width history t y x t_in y_in x_in =
    ap (λ rows. slice_get (get_or rows y []) x) (rows_at-image motion height width history t t_in)
    ∙ ap (λ row. slice_get row x) (get_or-map-range_with_len (row_image motion height width history t) 0 height y y [] y_in (omega arith))
    ∙ slice_get-get_or (row_image motion height width history t y) x false (rw length-map-range_with_len x_in)
    ∙ ap Some (get_or-map-range_with_len (cell_image motion height width history t y) 0 width x x false x_in (omega arith))

-- the value of a cell of the grid, without the rule
module _ (generations height width : ℕ) (history : History) (sizes : HasSizes generations height width history) where
  cell_of-cell : (t y x : ℕ) → t < generations → y < height → x < width
      → cell_of history t (cell_place y x) ≡ get_or (cells_of history) (x + width * (y + height * t)) false
  cell_of-cell t y x t_in y_in x_in =
      ap (λ cell. unwrap_or cell false) (cell_at-in_order generations height width history sizes t y x t_in y_in x_in)

  at-cell : (table : List Bool) (t y x : ℕ) → t < generations → y < height → x < width → at table history t (pos y) (pos x) ≡ cell_of history t (cell_place y x)
  at-cell table t y x t_in y_in x_in =
      ap (λ cell. unwrap_or cell (background table t)) (cell_at-in_order generations height width history sizes t y x t_in y_in x_in)
      ∙ sym (cell_of-cell t y x t_in y_in x_in)

  pub at-cell_of : (table : List Bool) (t : ℕ) (place : Place) → t < generations → IsOnGrid height width place → at table history t place.y place.x ≡ cell_of history t place
  at-cell_of table t place t_in on =
      subst (λ p. at table history t p.y p.x ≡ cell_of history t p) (cell_place-on_grid height width place on)
      (at-cell table t (unsigned_abs place.y) (unsigned_abs place.x) t_in (row-on_grid height place.y on.top on.bottom) (row-on_grid width place.x on.left on.right))

  pub cell_of-on_grid : (t : ℕ) (place : Place) → t < generations → IsOnGrid height width place
      → cell_of history t place ≡ get_or (cells_of history) (unsigned_abs place.x + width * (unsigned_abs place.y + height * t)) false
  cell_of-on_grid t place t_in on =
      ap (cell_of history t) (sym (cell_place-on_grid height width place on))
      ∙ cell_of-cell t (unsigned_abs place.y) (unsigned_abs place.x) t_in (row-on_grid height place.y on.top on.bottom) (row-on_grid width place.x on.left on.right)

-- of each cell by its number: the value of the cell where its image stands
pub cells_of-image : (motion : Motion) (sizes : Sizes) (history : History) (k : ℕ) → (exchanges motion ≡ true → sizes.height ≡ sizes.width)
    → HasSizes sizes.generations sizes.height sizes.width history → 0 < sizes.height → 0 < sizes.width → k < cell_count sizes
    → get_or (cells_of (image motion sizes.height sizes.width history)) k false ≡ get_or (cells_of history) (image_index motion sizes k) false
unfolding image_index
cells_of-image motion sizes history k square shape high wide below =
    let place = place_at sizes k in
    let inside = IsInside-place_at sizes k wide high below in
    let to = image_of motion sizes.height sizes.width (cell_place place.y place.x) in
    let on = image-on_grid motion sizes.height sizes.width (cell_place place.y place.x) square (IsOnGrid-cell sizes.height sizes.width place.y place.x inside.row inside.column) in
    let shape' = HasSizes-image motion sizes.generations sizes.height sizes.width history shape in
    let within : place.t < length history = subst (λ n. place.t < n) (sym shape.0) inside.generation in
    ap (λ i. get_or (cells_of (image motion sizes.height sizes.width history)) i false) (sym (index_of-place_at sizes k))
    ∙ sym (cell_of-cell sizes.generations sizes.height sizes.width (image motion sizes.height sizes.width history) shape' place.t place.y place.x inside.generation inside.row inside.column)
    ∙ ap (λ cell. unwrap_or cell false) (cell_at-image motion sizes.height sizes.width history place.t place.y place.x within inside.row inside.column)
    ∙ cell_of-on_grid sizes.generations sizes.height sizes.width history shape place.t to inside.generation on
