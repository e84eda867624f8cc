-- Reading a history that is folded from its cells in order.
use Rattle.std.proofs.Common.{◌≡◌, ◌<◌, ◌≤◌, ℕ, zero, suc, ◌+◌, ◌*◌, ℤ, pos, negsuc, Bool, true, false, List, [], ◌∷◌, length, map, refl, ap, ◌∙◌, arith, None, Some, slice_get, get_or, replicate, subst, ltb, ◌==◌}
use Rattle.std.specs.List.{range_with_len}
use Rattle.std.proofs.lemmas.List.{get_or_past}
use Rattle.std.proofs.lemmas.List.FromFn.{length-map-range_with_len, get_or-map-range_with_len}
use Rattle.std.proofs.lemmas.Option.{slice_get-get_or, slice_get_past}
use Rattle.std.proofs.lemmas.Option.{cond_some}
use Rattle.std.proofs.lemmas.Bool.{ltb-true}
use Rattle.std.proofs.lemmas.Bool.Decides.{nat_tests}
use Rattle.lls_grid.specs.Place.{inside}
use Rattle.std.specs.List.{list_all}
use Rattle.std.proofs.lemmas.Bool.{and_from, eq-eqb}
use Rattle.lls_grid.specs.History.{HasSizes, has_shape, folded, rows_at, cell_at, place_cell, height_of, width_of, dead}

-- the row y of generation t, and the rows of that generation
abbrev row_at : ℕ → ℕ → List Bool → ℕ → ℕ → List Bool
row_at height width cells t y = map (λ x. get_or cells (x + width * (y + height * t)) false) (range_with_len 0 width)

abbrev all_rows : ℕ → ℕ → List Bool → ℕ → List (List Bool)
all_rows height width cells t = map (row_at height width cells t) (range_with_len 0 height)

pub length-folded : (generations height width : ℕ) (cells : List Bool) → length (folded generations height width cells) ≡ generations
unfolding folded
length-folded generations height width cells = length-map-range_with_len _ 0 generations

pub rows_at-folded : (generations height width : ℕ) (cells : List Bool) (t : ℕ) → t < generations → rows_at (folded generations height width cells) t ≡ all_rows height width cells t
unfolding folded
rows_at-folded generations height width cells t lt = get_or-map-range_with_len (all_rows height width cells) 0 generations t t [] lt (omega arith)

row-all_rows : (height width : ℕ) (cells : List Bool) (t y : ℕ) → y < height → get_or (all_rows height width cells t) y [] ≡ row_at height width cells t y
row-all_rows height width cells t y lt = get_or-map-range_with_len (row_at height width cells t) 0 height y y [] lt (omega arith)

-- a cell inside the grid
pub cell_at-folded : (generations height width : ℕ) (cells : List Bool) (t y x : ℕ) → t < generations → y < height → x < width
    → cell_at (folded generations height width cells) t y x ≡ Some (get_or cells (x + width * (y + height * t)) false)
cell_at-folded generations height width cells t y x t_in y_in x_in =
    ap (λ rows. slice_get (get_or rows y []) x) (rows_at-folded generations height width cells t t_in)
    ∙ ap (λ row. slice_get row x) (row-all_rows height width cells t y y_in)
    ∙ slice_get-get_or (row_at height width cells t y) x false (rw length-map-range_with_len x_in)
    ∙ ap Some (get_or-map-range_with_len _ 0 width x x false x_in (omega arith))

-- no cell below the grid, and none to the right of it
pub cell_at-folded_below : (generations height width : ℕ) (cells : List Bool) (t y x : ℕ) → t < generations → height ≤ y
    → cell_at (folded generations height width cells) t y x ≡ None
cell_at-folded_below generations height width cells t y x t_in y_out =
    ap (λ rows. slice_get (get_or rows y []) x) (rows_at-folded generations height width cells t t_in)
    ∙ ap (λ row. slice_get row x) (get_or_past (all_rows height width cells t) y [] (rw length-map-range_with_len y_out))

pub cell_at-folded_right : (generations height width : ℕ) (cells : List Bool) (t y x : ℕ) → t < generations → y < height → width ≤ x
    → cell_at (folded generations height width cells) t y x ≡ None
cell_at-folded_right generations height width cells t y x t_in y_in x_out =
    ap (λ rows. slice_get (get_or rows y []) x) (rows_at-folded generations height width cells t t_in)
    ∙ ap (λ row. slice_get row x) (row-all_rows height width cells t y y_in)
    ∙ slice_get_past (row_at height width cells t y) x (rw length-map-range_with_len x_out)

-- the cell at a place by the row and the column that it has in the grid
pub some_row : (y : ℤ) (height row : ℕ) → inside y height ≡ Some row → (y ≡ pos row) × (row < height)
some_row (pos y) height row e =
    let found = cond_some (ltb y height) y row e in
    (ap pos found.1, subst (λ n. n < height) found.1 (ltb-true y height found.0))
some_row (negsuc y) height row e = cc

pub place_cell-folded : (generations height width : ℕ) (cells : List Bool) (t row column : ℕ) (y x : ℤ) → t < generations
    → inside y height ≡ Some row → inside x width ≡ Some column
    → place_cell (folded generations height width cells) t y x ≡ Some (get_or cells (column + width * (row + height * t)) false)
place_cell-folded generations height width cells t row column y x t_in at_row at_column =
    let r = some_row y height row at_row in
    let c = some_row x width column at_column in
    rw (r.0, c.0) (cell_at-folded generations height width cells t row column t_in r.1 c.1)

-- no cell in a place that has no row or no column in the grid
pub no_row : (y height : ℕ) → inside (pos y) height ≡ None → height ≤ y
no_row y height e = grind (arith, nat_tests)

pub place_cell-folded_above : (generations height width : ℕ) (cells : List Bool) (t : ℕ) (y x : ℤ) → t < generations
    → inside y height ≡ None → place_cell (folded generations height width cells) t y x ≡ None
place_cell-folded_above generations height width cells t (pos y) (pos x) t_in e = cell_at-folded_below generations height width cells t y x t_in (no_row y height e)
place_cell-folded_above generations height width cells t (pos y) (negsuc x) t_in e = refl
place_cell-folded_above generations height width cells t (negsuc y) (pos x) t_in e = refl
place_cell-folded_above generations height width cells t (negsuc y) (negsuc x) t_in e = refl

pub place_cell-folded_beside : (generations height width : ℕ) (cells : List Bool) (t row : ℕ) (y x : ℤ) → t < generations
    → inside y height ≡ Some row → inside x width ≡ None → place_cell (folded generations height width cells) t y x ≡ None
place_cell-folded_beside generations height width cells t row (pos y) (pos x) t_in at_row e =
    let r = some_row (pos y) height row at_row in
    let same : y ≡ row = cc in
    rw same (cell_at-folded_right generations height width cells t row x t_in r.1 (no_row x width e))
place_cell-folded_beside generations height width cells t row (pos y) (negsuc x) t_in at_row e = refl
place_cell-folded_beside generations height width cells t row (negsuc y) (pos x) t_in at_row e = refl
place_cell-folded_beside generations height width cells t row (negsuc y) (negsuc x) t_in at_row e = refl

-- its sizes
pub height_of-folded : (generations height width : ℕ) (cells : List Bool) → 0 < generations → height_of (folded generations height width cells) ≡ height
height_of-folded generations height width cells some =
    ap length (rows_at-folded generations height width cells 0 some) ∙ length-map-range_with_len _ 0 height

pub width_of-folded : (generations height width : ℕ) (cells : List Bool) → 0 < generations → 0 < height → width_of (folded generations height width cells) ≡ width
width_of-folded generations height width cells some rows =
    ap (λ all. length (get_or all 0 [])) (rows_at-folded generations height width cells 0 some)
    ∙ ap length (row-all_rows height width cells 0 0 rows)
    ∙ length-map-range_with_len _ 0 width

-- dead cells fold into a dead history
map_const : {X : Type 0} (x : X) (a n : ℕ) → map (λ (k : ℕ). x) (range_with_len a n) ≡ replicate n x
map_const x a zero = refl
map_const x a (suc n) = ap (λ xs. x ∷ xs) (map_const x (a + 1) n)

get_or-replicate : (n i : ℕ) → get_or (replicate n false) i false ≡ false
get_or-replicate zero i = refl
get_or-replicate (suc n) zero = refl
get_or-replicate (suc n) (suc i) = get_or-replicate n i

map_same : {X : Type 0} (f : ℕ → X) (x : X) (a n : ℕ) → ((k : ℕ) → f k ≡ x) → map f (range_with_len a n) ≡ replicate n x
map_same f x a zero same = refl
map_same f x a (suc n) same = simp (same a) (ap (λ xs. x ∷ xs) (map_same f x (a + 1) n same))

pub folded-replicate : (generations height width n : ℕ) → folded generations height width (replicate n false) ≡ dead generations height width
unfolding folded
folded-replicate generations height width n =
    map_same _ _ 0 generations (λ t. map_same _ _ 0 height (λ y. map_same _ _ 0 width (λ x. get_or-replicate n (x + width * (y + height * t)))))

-- all generations have the same shape
pub list_all_range : {X : Type 0} (p : X → Bool) (f : ℕ → X) (a n : ℕ) → ((k : ℕ) → p (f k) ≡ true) → list_all p (map f (range_with_len a n)) ≡ true
list_all_range p f a zero each = refl
list_all_range p f a (suc n) each = and_from _ _ (each a) (list_all_range p f (a + 1) n each)

shape_of_rows : (height width : ℕ) (cells : List Bool) (t : ℕ) → has_shape height width (all_rows height width cells t) ≡ true
shape_of_rows height width cells t =
    and_from _ _ (eq-eqb _ _ (length-map-range_with_len (row_at height width cells t) 0 height))
    (list_all_range (λ row. length row == width) (row_at height width cells t) 0 height (λ y. eq-eqb _ _ (length-map-range_with_len _ 0 width)))

shapes-folded : (generations height width : ℕ) (cells : List Bool) → list_all (has_shape height width) (folded generations height width cells) ≡ true
unfolding folded
shapes-folded generations height width cells = list_all_range (has_shape height width) (all_rows height width cells) 0 generations (shape_of_rows height width cells)

pub HasSizes-shape : (generations height width : ℕ) (cells : List Bool) → HasSizes generations height width (folded generations height width cells)
HasSizes-shape generations height width cells = (length-folded generations height width cells, shapes-folded generations height width cells)

pub HasSizes-folded : (generations height width : ℕ) (cells : List Bool) → 0 < generations → 0 < height
    → HasSizes (length (folded generations height width cells)) (height_of (folded generations height width cells)) (width_of (folded generations height width cells)) (folded generations height width cells)
HasSizes-folded generations height width cells some rows =
    (refl, rw (height_of-folded generations height width cells some, width_of-folded generations height width cells some rows) (shapes-folded generations height width cells))
