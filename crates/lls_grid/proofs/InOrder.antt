-- The cells of a history in the order generation, row, column, and where a cell stands in it.
use Rattle.std.proofs.Common.{◌≡◌, ◌<◌, ◌≤◌, ℕ, zero, suc, ◌+◌, ◌*◌, ℤ, pos, negsuc, Bool, true, false, List, [], ◌∷◌, ◌==◌, length, refl, sym, ap, ◌∙◌, arith, None, Some, get_or, slice_get, length-append}
use Rattle.std.specs.List.{list_all, flat_map}
use Rattle.std.proofs.lemmas.List.{get_or-append-add, get_or_append_left, get_or_past}
use Rattle.std.proofs.lemmas.Option.{slice_get-get_or, slice_get_past}
use Rattle.std.proofs.lemmas.Bool.{and_parts, eqb-true}
use Rattle.std.proofs.lemmas.Nat.{mul-add-lt}
use Rattle.std.proofs.Math.Nat.{mul_comm, mul_assoc, mul-add}
use Rattle.lls_grid.specs.History.{History, HasSizes, has_shape, cells_of, cells_of_rows, cell_at, place_cell}
use Rattle.lls_grid.specs.Place.{inside}
use Rattle.lls_grid.proofs.Folded.{some_row, no_row}

-- pieces of n elements each, joined end to end: the jth element of the ith piece
pub get_or-flat_map_even : {X A : Type 0} (f : X → List A) (p : X → Bool) (n : ℕ) → ((x : X) → p x ≡ true → length (f x) ≡ n)
    → (xs : List X) (i j : ℕ) (e : X) (d : A) → list_all p xs ≡ true → i < length xs → j < n
    → get_or (flat_map f xs) (j + n * i) d ≡ get_or (f (get_or xs i e)) j d
get_or-flat_map_even f p n each [] i j e d all i_in j_in = absurd (omega arith)
get_or-flat_map_even f p n each (x ∷ xs) zero j e d all i_in j_in =
    let parts = and_parts (p x) (list_all p xs) all in
    let len = each x parts.0 in
    let at : j + n * 0 ≡ j = omega arith in
    let inside : j < length (f x) = omega (arith, len) in
    rw at (get_or_append_left (f x) (flat_map f xs) d j inside)
get_or-flat_map_even f p n each (x ∷ xs) (suc i) j e d all i_in j_in =
    let parts = and_parts (p x) (list_all p xs) all in
    let len = each x parts.0 in
    let at : j + n * suc i ≡ length (f x) + (j + n * i) = omega (arith, len) in
    let i_in' : i < length xs = omega arith in
    rw at (get_or-append-add (f x) (flat_map f xs) (j + n * i) d ∙ get_or-flat_map_even f p n each xs i j e d parts.1 i_in' j_in)

pub length-flat_map_even : {X A : Type 0} (f : X → List A) (p : X → Bool) (n : ℕ) → ((x : X) → p x ≡ true → length (f x) ≡ n)
    → (xs : List X) → list_all p xs ≡ true → length (flat_map f xs) ≡ n * length xs
length-flat_map_even f p n each [] all = omega arith
length-flat_map_even f p n each (x ∷ xs) all =
    let parts = and_parts (p x) (list_all p xs) all in
    omega (arith, each x parts.0, length-append (f x) (flat_map f xs), length-flat_map_even f p n each xs parts.1)

-- how many cells the rows of a generation have, and a history
length-cells_of_rows : (height width : ℕ) (rows : List (List Bool)) → has_shape height width rows ≡ true → length (cells_of_rows rows) ≡ width * height
length-cells_of_rows height width rows shape =
    let parts = and_parts _ _ shape in
    length-flat_map_even (λ row. row) _ width (λ row same. eqb-true (length row) width same) rows parts.1
    ∙ ap (λ n. width * n) (eqb-true (length rows) height parts.0)

pub length-cells_of : (generations height width : ℕ) (history : History) → HasSizes generations height width history
    → length (cells_of history) ≡ width * (height * generations)
length-cells_of generations height width history sizes =
    length-flat_map_even cells_of_rows (has_shape height width) (width * height) (length-cells_of_rows height width) history sizes.1
    ∙ ap (λ n. width * height * n) sizes.0 ∙ mul_assoc width height generations

-- the generations, and the rows of one, of a history of these sizes
pub shape_at : (height width : ℕ) (history : List (List (List Bool))) (t : ℕ) → list_all (has_shape height width) history ≡ true → t < length history
    → has_shape height width (get_or history t []) ≡ true
shape_at height width [] t all t_in = absurd (omega arith)
shape_at height width (rows ∷ history) zero all t_in = (and_parts _ _ all).0
shape_at height width (rows ∷ history) (suc t) all t_in = let less : t < length history = omega arith in shape_at height width history t (and_parts _ _ all).1 less

pub width_at : (width : ℕ) (rows : List (List Bool)) (y : ℕ) → list_all (λ row. length row == width) rows ≡ true → y < length rows → length (get_or rows y []) ≡ width
width_at width [] y all y_in = absurd (omega arith)
width_at width (row ∷ rows) zero all y_in = eqb-true (length row) width (and_parts _ _ all).0
width_at width (row ∷ rows) (suc y) all y_in = let less : y < length rows = omega arith in width_at width rows y (and_parts _ _ all).1 less

-- a cell inside the grid is the one at its place in the order
pub cell_at-in_order : (generations height width : ℕ) (history : History) → HasSizes generations height width history
    → (t y x : ℕ) → t < generations → y < height → x < width
    → cell_at history t y x ≡ Some (get_or (cells_of history) (x + width * (y + height * t)) false)
cell_at-in_order generations height width history sizes t y x t_in y_in x_in =
    let t_in' : t < length history = omega (arith, sizes.0) in
    let shape = shape_at height width history t sizes.1 t_in' in
    let parts = and_parts _ _ shape in
    let rows : length (get_or history t []) ≡ height = eqb-true _ height parts.0 in
    let y_in' : y < length (get_or history t []) = omega arith in
    let columns : length (get_or (get_or history t []) y []) ≡ width = width_at width (get_or history t []) y parts.1 y_in' in
    let x_in' : x < length (get_or (get_or history t []) y []) = omega arith in
    let place : x + width * (y + height * t) ≡ (x + width * y) + width * height * t =
    omega (arith, mul-add width y (height * t), mul_assoc width height t) in
    let turned : y * width + x < width * height = mul-add-lt y width x height y_in x_in in
    let within : x + width * y < width * height = omega (arith, turned, mul_comm y width) in
    slice_get-get_or _ x false x_in'
    ∙ ap Some (sym (
    ap (λ k. get_or (cells_of history) k false) place
    ∙ get_or-flat_map_even cells_of_rows (has_shape height width) (width * height) (length-cells_of_rows height width) history t (x + width * y) [] false sizes.1 t_in' within
    ∙ get_or-flat_map_even (λ row. row) (λ row. length row == width) width (λ row same. eqb-true (length row) width same) (get_or history t []) y x [] false parts.1 y_in' x_in))

-- the cell at a place by the row and the column that it has in the grid, if any
pub place_cell-in_order : (generations height width : ℕ) (history : History) → HasSizes generations height width history
    → (t row column : ℕ) (y x : ℤ) → t < generations → inside y height ≡ Some row → inside x width ≡ Some column
    → place_cell history t y x ≡ Some (get_or (cells_of history) (column + width * (row + height * t)) false)
place_cell-in_order generations height width history sizes t row column y x t_in at_row at_column =
    let r = some_row y height row at_row in
    let c = some_row x width column at_column in
    rw (r.0, c.0) (cell_at-in_order generations height width history sizes t row column t_in r.1 c.1)

pub place_cell-above : (generations height width : ℕ) (history : History) → HasSizes generations height width history
    → (t : ℕ) (y x : ℤ) → t < generations → inside y height ≡ None → place_cell history t y x ≡ None
place_cell-above generations height width history sizes t (pos y) (pos x) t_in e =
    let t_in' : t < length history = omega (arith, sizes.0) in
    let parts = and_parts _ _ (shape_at height width history t sizes.1 t_in') in
    let rows : length (get_or history t []) ≡ height = eqb-true _ height parts.0 in
    let out : length (get_or history t []) ≤ y = omega (arith, no_row y height e) in
    ap (λ row. slice_get row x) (get_or_past (get_or history t []) y [] out)
place_cell-above generations height width history sizes t (pos y) (negsuc x) t_in e = refl
place_cell-above generations height width history sizes t (negsuc y) (pos x) t_in e = refl
place_cell-above generations height width history sizes t (negsuc y) (negsuc x) t_in e = refl

pub place_cell-beside : (generations height width : ℕ) (history : History) → HasSizes generations height width history
    → (t row : ℕ) (y x : ℤ) → t < generations → inside y height ≡ Some row → inside x width ≡ None → place_cell history t y x ≡ None
place_cell-beside generations height width history sizes t row (pos y) (pos x) t_in at_row e =
    let t_in' : t < length history = omega (arith, sizes.0) in
    let parts = and_parts _ _ (shape_at height width history t sizes.1 t_in') in
    let rows : length (get_or history t []) ≡ height = eqb-true _ height parts.0 in
    let r = some_row (pos y) height row at_row in
    let same : y ≡ row = cc in
    let y_in : y < length (get_or history t []) = omega (arith, r.1, same) in
    let columns : length (get_or (get_or history t []) y []) ≡ width = width_at width (get_or history t []) y parts.1 y_in in
    let out : length (get_or (get_or history t []) y []) ≤ x = omega (arith, no_row x width e) in
    slice_get_past (get_or (get_or history t []) y []) x out
place_cell-beside generations height width history sizes t row (pos y) (negsuc x) t_in at_row e = refl
place_cell-beside generations height width history sizes t row (negsuc y) (pos x) t_in at_row e = refl
place_cell-beside generations height width history sizes t row (negsuc y) (negsuc x) t_in at_row e = refl
