-- The image of a history has as many live cells as the history, in each generation.
use Rattle.std.proofs.Common.{◌≡◌, ◌<◌, ℕ, ◌-◌, pos, true, false, cond, [], length, get_or, refl, sym, ap, ◌∙◌, subst, arith}
use Rattle.std.specs.Prelude.{unwrap_or}
use Rattle.std.specs.List.{count_by}
use Rattle.std.proofs.lemmas.Bool.{and_parts, eqb-true}
use Rattle.std.proofs.lemmas.Int.{ints}
use Rattle.std.proofs.lemmas.Option.{slice_get-get_or}
use Rattle.lls_grid.specs.History.{History, HasSizes, rows_at}
use Rattle.lls_grid.specs.Changes.{population}
use Rattle.lls_grid.proofs.InOrder.{shape_at, width_at}
use Rattle.lls_symmetry.specs.declared.motion.Motion.{Motion}
use Rattle.lls_symmetry.specs.declared.motion.Motion.TheVariants.{HalfTurn, QuarterTurn, BackTurn, RowMirror, ColumnMirror, DownMirror, UpMirror}
use Rattle.lls_symmetry.specs.Motion.{Place, image_of, cell_place, exchanges, opposite}
use Rattle.lls_symmetry.proofs.Grids.{same_place}
use Rattle.lls_images.specs.Image.{cell_of, image}
use Rattle.lls_images.proofs.Images.{HasSizes-image, cell_at-image}
use Rattle.lls_images.proofs.Sums.{total, total-same, total-reversed, total-exchanged, count-total, count-rows}

-- one for a live cell
abbrev lives : History → ℕ → Place → ℕ
lives history t place = cond (cell_of history t place) 1 0

-- what is summed up over all cells
abbrev over : ℕ → ℕ → (ℕ → ℕ → ℕ) → ℕ
over height width f = total (λ y. total (f y) width) height

over-same : (height width : ℕ) (f g : ℕ → ℕ → ℕ) → ((y x : ℕ) → y < height → x < width → f y x ≡ g y x) → over height width f ≡ over height width g
over-same height width f g same = total-same (λ y. total (f y) width) (λ y. total (g y) width) height (λ y row. total-same (f y) (g y) width (λ x column. same y x row column))

population-over : (generations height width : ℕ) (history : History) (t : ℕ) → HasSizes generations height width history → t < generations
    → population history t ≡ over height width (λ y x. lives history t (cell_place y x))
population-over generations height width history t sizes t_in =
    let within : t < length history = subst (λ n. t < n) (sym sizes.0) t_in in
    let parts = and_parts _ _ (shape_at height width history t sizes.1 within) in
    let rows : length (rows_at history t) ≡ height = eqb-true (length (rows_at history t)) height parts.0 in
    count-rows (rows_at history t)
    ∙ ap (total (λ y. count_by (λ live. live) (get_or (rows_at history t) y []))) rows
    ∙ total-same (λ y. count_by (λ live. live) (get_or (rows_at history t) y [])) (λ y. total (λ x. lives history t (cell_place y x)) width) height (λ y row.
    let there : y < length (rows_at history t) = subst (λ n. y < n) (sym rows) row in
    let columns : length (get_or (rows_at history t) y []) ≡ width = width_at width (rows_at history t) y parts.1 there in
    count-total (get_or (rows_at history t) y []) ∙ ap (total (λ x. cond (get_or (get_or (rows_at history t) y []) x false) 1 0)) columns
    ∙ total-same (λ x. cond (get_or (get_or (rows_at history t) y []) x false) 1 0) (λ x. lives history t (cell_place y x)) width (λ x column.
    ap (λ cell. cond (unwrap_or cell false) 1 0) (sym (slice_get-get_or (get_or (rows_at history t) y []) x false (subst (λ n. x < n) (sym columns) column)))))

opposite-cell : (size i : ℕ) → i < size → opposite size (pos i) ≡ pos (size - 1 - i)
opposite-cell size i below = omega (arith, ints)

-- the rows from the last on, the columns from the last on, and columns for rows
rows_back : (height width : ℕ) (f : ℕ → ℕ → ℕ) → over height width (λ y x. f (height - 1 - y) x) ≡ over height width f
rows_back height width f = total-reversed (λ y. total (f y) width) height

columns_back : (height width : ℕ) (f : ℕ → ℕ → ℕ) → over height width (λ y x. f y (width - 1 - x)) ≡ over height width f
columns_back height width f = total-same (λ y. total (λ x. f y (width - 1 - x)) width) (λ y. total (f y) width) height (λ y row. total-reversed (f y) width)

exchanged : (height width : ℕ) (f : ℕ → ℕ → ℕ) → height ≡ width → over height width (λ y x. f x y) ≡ over height width f
exchanged height width f square =
    total-exchanged (λ y x. f x y) height width
    ∙ ap (λ n. total (λ x. total (f x) height) n) (sym square) ∙ ap (λ n. total (λ x. total (f x) n) height) square

-- over all cells, what is summed up of the images is what is summed up of the cells
over-image : (motion : Motion) (height width : ℕ) (v : Place → ℕ) → (exchanges motion ≡ true → height ≡ width)
    → over height width (λ y x. v (image_of motion height width (cell_place y x))) ≡ over height width (λ y x. v (cell_place y x))
over-image HalfTurn height width v square =
    over-same height width _ (λ y x. v (cell_place (height - 1 - y) (width - 1 - x))) (λ y x row column. ap v (same_place _ _ (opposite-cell height y row) (opposite-cell width x column)))
    ∙ rows_back height width (λ y x. v (cell_place y (width - 1 - x))) ∙ columns_back height width (λ y x. v (cell_place y x))
over-image QuarterTurn height width v square =
    let same : height ≡ width = square refl in
    over-same height width _ (λ y x. v (cell_place x (height - 1 - y))) (λ y x row column. ap v (same_place _ _ refl (opposite-cell height y row)))
    ∙ rows_back height width (λ y x. v (cell_place x y)) ∙ exchanged height width (λ y x. v (cell_place y x)) same
over-image BackTurn height width v square =
    let same : height ≡ width = square refl in
    over-same height width _ (λ y x. v (cell_place (width - 1 - x) y)) (λ y x row column. ap v (same_place _ _ (opposite-cell width x column) refl))
    ∙ columns_back height width (λ y x. v (cell_place x y)) ∙ exchanged height width (λ y x. v (cell_place y x)) same
over-image RowMirror height width v square =
    over-same height width _ (λ y x. v (cell_place (height - 1 - y) x)) (λ y x row column. ap v (same_place _ _ (opposite-cell height y row) refl))
    ∙ rows_back height width (λ y x. v (cell_place y x))
over-image ColumnMirror height width v square =
    over-same height width _ (λ y x. v (cell_place y (width - 1 - x))) (λ y x row column. ap v (same_place _ _ refl (opposite-cell width x column)))
    ∙ columns_back height width (λ y x. v (cell_place y x))
over-image DownMirror height width v square = exchanged height width (λ y x. v (cell_place y x)) (square refl)
over-image UpMirror height width v square =
    let same : height ≡ width = square refl in
    over-same height width _ (λ y x. v (cell_place (width - 1 - x) (height - 1 - y))) (λ y x row column. ap v (same_place _ _ (opposite-cell width x column) (opposite-cell height y row)))
    ∙ rows_back height width (λ y x. v (cell_place (width - 1 - x) y)) ∙ columns_back height width (λ y x. v (cell_place x y)) ∙ exchanged height width (λ y x. v (cell_place y x)) same

pub population-image : (motion : Motion) (generations height width : ℕ) (history : History) (t : ℕ) → (exchanges motion ≡ true → height ≡ width)
    → HasSizes generations height width history → t < generations → population (image motion height width history) t ≡ population history t
population-image motion generations height width history t square sizes t_in =
    let within : t < length history = subst (λ n. t < n) (sym sizes.0) t_in in
    population-over generations height width (image motion height width history) t (HasSizes-image motion generations height width history sizes) t_in
    ∙ over-same height width _ _ (λ y x row column. ap (λ cell. cond (unwrap_or cell false) 1 0) (cell_at-image motion height width history t y x within row column))
    ∙ over-image motion height width (lives history t) square
    ∙ sym (population-over generations height width history t sizes t_in)
