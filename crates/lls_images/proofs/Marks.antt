-- A place is marked and framed where its image is.
use Rattle.std.proofs.Common.{◌≡◌, ◌<◌, ℕ, pos, unsigned_abs, true, false, cond, length, Option, None, Some, refl, sym, ap, ◌∙◌, subst, arith, inl, inr}
use Rattle.std.proofs.lemmas.Bool.{and_parts, lt-ltb}
use Rattle.std.proofs.lemmas.Int.{ints}
use Rattle.lls_grid.specs.Place.{inside}
use Rattle.lls_grid.specs.Sizes.{IsInside}
use Rattle.lls_grid.proofs.Folded.{some_row}
use Rattle.lls_search_file.specs.Posed.{PosedFile, IsPosed, sizes_of}
use Rattle.lls_symmetry.specs.declared.motion.Motion.{Motion}
use Rattle.lls_symmetry.specs.declared.motion.Motion.TheVariants.{HalfTurn, QuarterTurn, BackTurn, RowMirror, ColumnMirror, DownMirror, UpMirror}
use Rattle.lls_symmetry.specs.Motion.{Place, IsOnGrid, image_of, cell_place, exchanges}
use Rattle.lls_symmetry.proofs.Grids.{image-on_grid, image-off_grid}
use Rattle.lls_symmetry.proofs.Symmetric.{on_grid_or_off, cell_place-on_grid, row-on_grid, pos-unsigned_abs, IsOnGrid-cell}
use Rattle.lls_problem.specs.declared.demands.Edge.{Edge}
use Rattle.lls_problem.specs.declared.demands.Edge.TheVariants.{Framed, Bare}
use Rattle.lls_problem.specs.Solution.{cell_number, place_of, IsFramed, is_marked, is_marked_at}
use Rattle.lls_problem.proofs.Places.{index_of-lt}
use Rattle.lls_images.specs.Same.{is_kept, keeps_cells}
use Rattle.lls_images.proofs.Tests.{all_each}
use Rattle.lls_images.proofs.Places.{image_index-by_place}
use Rattle.lls_images.proofs.Neighbours.{same_bits}

inside-cell : (n size : ℕ) → n < size → inside (pos n) size ≡ Some n
inside-cell n size below = ap (λ b. cond b (Some n) None) (lt-ltb n size below)

marked_cell : (file : PosedFile) (t y x : ℕ) → y < file.height → x < file.width → is_marked file t (pos y) (pos x) ≡ (cell_number file.cells (place_of file t y x)).mark
marked_cell file t y x row column =
    ap (λ r. is_marked_at file t r (inside (pos x) file.width)) (inside-cell y file.height row) ∙ ap (is_marked_at file t (Some y)) (inside-cell x file.width column)

off_by_sides : (file : PosedFile) (t : ℕ) (place : Place) (row column : Option ℕ) → inside place.y file.height ≡ row → inside place.x file.width ≡ column
    → (IsOnGrid file.height file.width place → ⊥) → is_marked_at file t row column ≡ false
off_by_sides file t place None column at_row at_column off = refl
off_by_sides file t place (Some row) None at_row at_column off = refl
off_by_sides file t place (Some row) (Some column) at_row at_column off =
    let r = some_row place.y file.height row at_row in
    let c = some_row place.x file.width column at_column in
    let row_in = r.1 in
    let column_in = c.1 in
    let row_is = r.0 in
    let column_is = c.0 in
    absurd (off (record { top = omega (arith, ints); bottom = omega (arith, ints); left = omega (arith, ints); right = omega (arith, ints) }))

module _ (file : PosedFile) (motion : Motion) (square : exchanges motion ≡ true → file.height ≡ file.width) (posed : IsPosed file) (kept : keeps_cells motion file ≡ true) where
  marked_image_cell : (t y x : ℕ) → t < file.generations → y < file.height → x < file.width
      → is_marked file t (image_of motion file.height file.width (cell_place y x)).y (image_of motion file.height file.width (cell_place y x)).x ≡ is_marked file t (pos y) (pos x)
  marked_image_cell t y x t_in row column =
      let to = image_of motion file.height file.width (cell_place y x) in
      let on = image-on_grid motion file.height file.width (cell_place y x) square (IsOnGrid-cell file.height file.width y x row column) in
      let inside : IsInside (sizes_of file) (record { t = t; y = y; x = x }) = record { generation = t_in; row = row; column = column } in
      let k = place_of file t y x in
      let there = image_index-by_place motion (sizes_of file) k (record { t = t; y = y; x = x }) (unsigned_abs to.y) (unsigned_abs to.x) (place_of file t (unsigned_abs to.y) (unsigned_abs to.x))
      inside refl (pos-unsigned_abs to.y on.top) (pos-unsigned_abs to.x on.left) refl in
      let parts = and_parts _ _ (all_each (is_kept motion file) (length file.cells) k kept (index_of-lt file (record { t = t; y = y; x = x }) posed inside)) in
      ap (λ p. is_marked file t p.y p.x) (sym (cell_place-on_grid file.height file.width to on))
      ∙ marked_cell file t (unsigned_abs to.y) (unsigned_abs to.x) (row-on_grid file.height to.y on.top on.bottom) (row-on_grid file.width to.x on.left on.right)
      ∙ ap (λ i. (cell_number file.cells i).mark) there
      ∙ sym (same_bits _ _ parts.0)
      ∙ sym (marked_cell file t y x row column)

  pub is_marked-image : (t : ℕ) (place : Place) → t < file.generations
      → is_marked file t (image_of motion file.height file.width place).y (image_of motion file.height file.width place).x ≡ is_marked file t place.y place.x
  is_marked-image t place t_in =
      elim (on_grid_or_off file.height file.width place) [
        | inl on ↦
            subst (λ p. is_marked file t (image_of motion file.height file.width p).y (image_of motion file.height file.width p).x ≡ is_marked file t p.y p.x) (cell_place-on_grid file.height file.width place on)
            (marked_image_cell t (unsigned_abs place.y) (unsigned_abs place.x) t_in (row-on_grid file.height place.y on.top on.bottom) (row-on_grid file.width place.x on.left on.right))
        | inr off ↦
            off_by_sides file t (image_of motion file.height file.width place) _ _ refl refl (λ on. off (image-off_grid motion file.height file.width place square on))
            ∙ sym (off_by_sides file t place _ _ refl refl off)
      ]

-- in the ring round the grid
ring-image : (motion : Motion) (height width : ℕ) (place : Place) → (exchanges motion ≡ true → height ≡ width) → IsFramed Framed height width place.y place.x
    → IsFramed Framed height width (image_of motion height width place).y (image_of motion height width place).x
ring-image HalfTurn height width place square (top, bottom, left, right) =
    (omega (arith, ints), omega (arith, ints), omega (arith, ints), omega (arith, ints))
ring-image QuarterTurn height width place square (top, bottom, left, right) =
    let same : height ≡ width = square refl in
    (omega (arith, ints), omega (arith, ints), omega (arith, ints), omega (arith, ints))
ring-image BackTurn height width place square (top, bottom, left, right) =
    let same : height ≡ width = square refl in
    (omega (arith, ints), omega (arith, ints), omega (arith, ints), omega (arith, ints))
ring-image RowMirror height width place square (top, bottom, left, right) =
    (omega (arith, ints), omega (arith, ints), omega (arith, ints), omega (arith, ints))
ring-image ColumnMirror height width place square (top, bottom, left, right) =
    (omega (arith, ints), omega (arith, ints), omega (arith, ints), omega (arith, ints))
ring-image DownMirror height width place square (top, bottom, left, right) =
    let same : height ≡ width = square refl in
    (omega (arith, ints), omega (arith, ints), omega (arith, ints), omega (arith, ints))
ring-image UpMirror height width place square (top, bottom, left, right) =
    let same : height ≡ width = square refl in
    (omega (arith, ints), omega (arith, ints), omega (arith, ints), omega (arith, ints))

pub IsFramed-image : (edge : Edge) (motion : Motion) (height width : ℕ) (place : Place) → (exchanges motion ≡ true → height ≡ width) → IsFramed edge height width place.y place.x
    → IsFramed edge height width (image_of motion height width place).y (image_of motion height width place).x
IsFramed-image Framed motion height width place square framed = ring-image motion height width place square framed
IsFramed-image Bare motion height width place square (top, bottom, left, right) =
    let on = image-on_grid motion height width place square (record { top = top; bottom = bottom; left = left; right = right }) in
    (on.top, on.bottom, on.left, on.right)
