-- Motions and the grids that they take to themselves, and what motions are to one another.
use Rattle.std.proofs.Common.{◌≡◌, ◌<◌, ◌≤◌, ◌↔◌, ℕ, zero, suc, ◌-◌, ℤ, Bool, true, false, not, ◌||◌, IsTrue, List, [], ◌∷◌, length, get_or, refl, sym, ap, ◌∙◌, arith, nat_eq, eq-eqb, eqb-true, lit<}
use Rattle.std.specs.List.{list_any}
use Rattle.std.proofs.lemmas.Int.{ints}
use Rattle.lls_symmetry.specs.declared.motion.Motion.{Motion}
use Rattle.lls_symmetry.specs.declared.motion.Motion.TheVariants.{HalfTurn, QuarterTurn, BackTurn, RowMirror, ColumnMirror, DownMirror, UpMirror}
use Rattle.lls_symmetry.specs.declared.symmetry.Symmetry.{Symmetry}
use Rattle.lls_symmetry.specs.declared.symmetry.Symmetry.TheVariants.{C1, C2, C4, D2Row, D2Col, D2Down, D2Up, D4Plus, D4Cross, D8}
use Rattle.lls_symmetry.specs.Motion.{Place, cell_place, IsOnGrid, image_of, exchanges}
use Rattle.lls_symmetry.specs.Symmetry.{generators_of, generator_at, fits, KeepsGrid}

-- a place is its row and its column
place_at : ℤ → ℤ → Place
place_at y x = record { y = y; x = x }

pub same_place : (p q : Place) → p.y ≡ q.y → p.x ≡ q.x → p ≡ q
unfolding place_at
same_place p q row column = ap (λ y. place_at y p.x) row ∙ ap (place_at q.y) column

-- the image of a cell is a cell
pub image-on_grid : (motion : Motion) (height width : ℕ) (place : Place) → (exchanges motion ≡ true → height ≡ width)
    → IsOnGrid height width place → IsOnGrid height width (image_of motion height width place)
image-on_grid HalfTurn height width place square on = record { top = omega (arith, ints); bottom = omega (arith, ints); left = omega (arith, ints); right = omega (arith, ints) }
image-on_grid QuarterTurn height width place square on =
    let same : height ≡ width = square refl in
    record { top = omega (arith, ints); bottom = omega (arith, ints); left = omega (arith, ints); right = omega (arith, ints) }
image-on_grid BackTurn height width place square on =
    let same : height ≡ width = square refl in
    record { top = omega (arith, ints); bottom = omega (arith, ints); left = omega (arith, ints); right = omega (arith, ints) }
image-on_grid RowMirror height width place square on = record { top = omega (arith, ints); bottom = omega (arith, ints); left = omega (arith, ints); right = omega (arith, ints) }
image-on_grid ColumnMirror height width place square on = record { top = omega (arith, ints); bottom = omega (arith, ints); left = omega (arith, ints); right = omega (arith, ints) }
image-on_grid DownMirror height width place square on =
    let same : height ≡ width = square refl in
    record { top = omega (arith, ints); bottom = omega (arith, ints); left = omega (arith, ints); right = omega (arith, ints) }
image-on_grid UpMirror height width place square on =
    let same : height ≡ width = square refl in
    record { top = omega (arith, ints); bottom = omega (arith, ints); left = omega (arith, ints); right = omega (arith, ints) }

-- and no other place's is
pub image-off_grid : (motion : Motion) (height width : ℕ) (place : Place) → (exchanges motion ≡ true → height ≡ width)
    → IsOnGrid height width (image_of motion height width place) → IsOnGrid height width place
image-off_grid HalfTurn height width place square on = record { top = omega (arith, ints); bottom = omega (arith, ints); left = omega (arith, ints); right = omega (arith, ints) }
image-off_grid QuarterTurn height width place square on =
    let same : height ≡ width = square refl in
    record { top = omega (arith, ints); bottom = omega (arith, ints); left = omega (arith, ints); right = omega (arith, ints) }
image-off_grid BackTurn height width place square on =
    let same : height ≡ width = square refl in
    record { top = omega (arith, ints); bottom = omega (arith, ints); left = omega (arith, ints); right = omega (arith, ints) }
image-off_grid RowMirror height width place square on = record { top = omega (arith, ints); bottom = omega (arith, ints); left = omega (arith, ints); right = omega (arith, ints) }
image-off_grid ColumnMirror height width place square on = record { top = omega (arith, ints); bottom = omega (arith, ints); left = omega (arith, ints); right = omega (arith, ints) }
image-off_grid DownMirror height width place square on =
    let same : height ≡ width = square refl in
    record { top = omega (arith, ints); bottom = omega (arith, ints); left = omega (arith, ints); right = omega (arith, ints) }
image-off_grid UpMirror height width place square on =
    let same : height ≡ width = square refl in
    record { top = omega (arith, ints); bottom = omega (arith, ints); left = omega (arith, ints); right = omega (arith, ints) }

-- a generator that exchanges rows and columns needs a square
any_exchanges : (motions : List Motion) (k : ℕ) → k < length motions → exchanges (get_or motions k HalfTurn) ≡ true → list_any exchanges motions ≡ true
any_exchanges [] k within is = absurd (omega arith)
any_exchanges (motion ∷ motions) zero within is = rw is refl
any_exchanges (motion ∷ motions) (suc k) within is =
    let later : list_any exchanges motions ≡ true = any_exchanges motions k (omega arith) is in
    rw later (elim (exchanges motion) as (λ b. (b || true) ≡ true) [ true ↦ refl | false ↦ refl ])

square_where : (needed : Bool) (height width : ℕ) → needed ≡ true → (not needed || nat_eq height width) ≡ true → height ≡ width
square_where true height width is fitting = eqb-true height width fitting
square_where false height width is fitting = cc

pub fits-square : (symmetry : Symmetry) (height width k : ℕ) → fits symmetry height width ≡ true → k < length (generators_of symmetry)
    → exchanges (generator_at symmetry k) ≡ true → height ≡ width
fits-square symmetry height width k fitting within is =
    square_where (list_any exchanges (generators_of symmetry)) height width (any_exchanges (generators_of symmetry) k within is) fitting

-- a motion that takes the corners of a grid into the grid, and exchanges rows and columns
square_by : (motion : Motion) (height width : ℕ) → 1 ≤ height → 1 ≤ width → exchanges motion ≡ true
    → ((place : Place) → IsOnGrid height width place → IsOnGrid height width (image_of motion height width place)) → height ≡ width
square_by motion height width high wide is keeps =
    let first = keeps (cell_place 0 0) (record { top = omega (arith, ints); bottom = omega (arith, ints); left = omega (arith, ints); right = omega (arith, ints) }) in
    let right = keeps (cell_place 0 (width - 1)) (record { top = omega (arith, ints); bottom = omega (arith, ints); left = omega (arith, ints); right = omega (arith, ints) }) in
    let down = keeps (cell_place (height - 1) 0) (record { top = omega (arith, ints); bottom = omega (arith, ints); left = omega (arith, ints); right = omega (arith, ints) }) in
    corners motion height width is first right down
  where
    corners : (motion : Motion) (height width : ℕ) → exchanges motion ≡ true → IsOnGrid height width (image_of motion height width (cell_place 0 0))
        → IsOnGrid height width (image_of motion height width (cell_place 0 (width - 1))) → IsOnGrid height width (image_of motion height width (cell_place (height - 1) 0)) → height ≡ width
    corners HalfTurn height width is first right down = cc
    corners QuarterTurn height width is first right down = omega (arith, ints)
    corners BackTurn height width is first right down = omega (arith, ints)
    corners RowMirror height width is first right down = cc
    corners ColumnMirror height width is first right down = cc
    corners DownMirror height width is first right down = omega (arith, ints)
    corners UpMirror height width is first right down = omega (arith, ints)

-- the grids that a symmetry fits are those that its generators take to themselves
pub KeepsGrid-by_fits : (symmetry : Symmetry) (height width : ℕ) → fits symmetry height width ≡ true → KeepsGrid symmetry height width
KeepsGrid-by_fits symmetry height width fitting = λ k place within on.
    image-on_grid (generator_at symmetry k) height width place (fits-square symmetry height width k fitting within) on

pub fits-by_keeps : (symmetry : Symmetry) (height width : ℕ) → 1 ≤ height → 1 ≤ width → KeepsGrid symmetry height width → fits symmetry height width ≡ true
fits-by_keeps C1 height width high wide keeps = refl
fits-by_keeps C2 height width high wide keeps = refl
fits-by_keeps C4 height width high wide keeps = eq-eqb height width (square_by QuarterTurn height width high wide refl (λ place on. keeps 0 place (lit< tt) on))
fits-by_keeps D2Row height width high wide keeps = refl
fits-by_keeps D2Col height width high wide keeps = refl
fits-by_keeps D2Down height width high wide keeps = eq-eqb height width (square_by DownMirror height width high wide refl (λ place on. keeps 0 place (lit< tt) on))
fits-by_keeps D2Up height width high wide keeps = eq-eqb height width (square_by UpMirror height width high wide refl (λ place on. keeps 0 place (lit< tt) on))
fits-by_keeps D4Plus height width high wide keeps = refl
fits-by_keeps D4Cross height width high wide keeps = eq-eqb height width (square_by DownMirror height width high wide refl (λ place on. keeps 0 place (lit< tt) on))
fits-by_keeps D8 height width high wide keeps = eq-eqb height width (square_by QuarterTurn height width high wide refl (λ place on. keeps 0 place (lit< tt) on))

-- so the test says which they are
pub KeepsGrid-by_test : (symmetry : Symmetry) (height width : ℕ) (test : Bool) → test ≡ fits symmetry height width → 1 ≤ height → 1 ≤ width
    → IsTrue test ↔ KeepsGrid symmetry height width
KeepsGrid-by_test symmetry height width test is high wide =
    (λ holds. KeepsGrid-by_fits symmetry height width (sym is ∙ holds), λ keeps. is ∙ fits-by_keeps symmetry height width high wide keeps)
