-- The image of symmetric values is symmetric, where the motion takes the symmetry's axes to axes of it.
use Rattle.std.proofs.Common.{◌≡◌, ℕ, ℤ, Bool, true, false, cond, refl, sym, ap, ◌∙◌, subst, arith, lit<}
use Rattle.std.specs.List.{AllByRecursion as Each}
use Rattle.std.proofs.lemmas.Int.{ints}
use Rattle.std.proofs.lemmas.List.Elements.{All-from_recursion}
use Rattle.lls_symmetry.specs.declared.motion.Motion.{Motion}
use Rattle.lls_symmetry.specs.declared.motion.Motion.TheVariants.{HalfTurn, QuarterTurn, BackTurn, RowMirror, ColumnMirror, DownMirror, UpMirror}
use Rattle.lls_symmetry.specs.declared.symmetry.Symmetry.{Symmetry}
use Rattle.lls_symmetry.specs.declared.symmetry.Symmetry.TheVariants.{C1, C2, C4, D2Row, D2Col, D2Down, D2Up, D4Plus, D4Cross, D8}
use Rattle.lls_symmetry.specs.Motion.{Place, image_of, exchanges}
use Rattle.lls_symmetry.specs.Symmetry.{generators_of, generator_at, fits, IsSymmetric}
use Rattle.lls_symmetry.proofs.Grids.{same_place, fits-square}
use Rattle.lls_symmetry.proofs.Laws.{image_of-inverse}
use Rattle.lls_images.proofs.Tests.{where_apart}
use Rattle.lls_images.specs.Same.{swaps_diagonals, keeps_symmetry}

-- a mirror or a turn done after a motion is one done before it: this one
abbrev is_turn : Motion → Bool
is_turn HalfTurn = true
is_turn QuarterTurn = true
is_turn BackTurn = true
is_turn RowMirror = false
is_turn ColumnMirror = false
is_turn DownMirror = false
is_turn UpMirror = false

abbrev after : Motion → Motion → Motion
after motion HalfTurn = HalfTurn
after motion QuarterTurn = cond (is_turn motion) QuarterTurn BackTurn
after motion BackTurn = cond (is_turn motion) BackTurn QuarterTurn
after motion RowMirror = cond (exchanges motion) ColumnMirror RowMirror
after motion ColumnMirror = cond (exchanges motion) RowMirror ColumnMirror
after motion DownMirror = cond (swaps_diagonals motion) UpMirror DownMirror
after motion UpMirror = cond (swaps_diagonals motion) DownMirror UpMirror

-- on a square
after_on_square : (motion other : Motion) (n : ℕ) (place : Place) → image_of motion n n (image_of other n n place) ≡ image_of (after motion other) n n (image_of motion n n place)
after_on_square HalfTurn HalfTurn n place = same_place _ _ (omega (arith, ints)) (omega (arith, ints))
after_on_square HalfTurn QuarterTurn n place = same_place _ _ (omega (arith, ints)) (omega (arith, ints))
after_on_square HalfTurn BackTurn n place = same_place _ _ (omega (arith, ints)) (omega (arith, ints))
after_on_square HalfTurn RowMirror n place = same_place _ _ (omega (arith, ints)) (omega (arith, ints))
after_on_square HalfTurn ColumnMirror n place = same_place _ _ (omega (arith, ints)) (omega (arith, ints))
after_on_square HalfTurn DownMirror n place = same_place _ _ (omega (arith, ints)) (omega (arith, ints))
after_on_square HalfTurn UpMirror n place = same_place _ _ (omega (arith, ints)) (omega (arith, ints))
after_on_square QuarterTurn HalfTurn n place = same_place _ _ (omega (arith, ints)) (omega (arith, ints))
after_on_square QuarterTurn QuarterTurn n place = same_place _ _ (omega (arith, ints)) (omega (arith, ints))
after_on_square QuarterTurn BackTurn n place = same_place _ _ (omega (arith, ints)) (omega (arith, ints))
after_on_square QuarterTurn RowMirror n place = same_place _ _ (omega (arith, ints)) (omega (arith, ints))
after_on_square QuarterTurn ColumnMirror n place = same_place _ _ (omega (arith, ints)) (omega (arith, ints))
after_on_square QuarterTurn DownMirror n place = same_place _ _ (omega (arith, ints)) (omega (arith, ints))
after_on_square QuarterTurn UpMirror n place = same_place _ _ (omega (arith, ints)) (omega (arith, ints))
after_on_square BackTurn HalfTurn n place = same_place _ _ (omega (arith, ints)) (omega (arith, ints))
after_on_square BackTurn QuarterTurn n place = same_place _ _ (omega (arith, ints)) (omega (arith, ints))
after_on_square BackTurn BackTurn n place = same_place _ _ (omega (arith, ints)) (omega (arith, ints))
after_on_square BackTurn RowMirror n place = same_place _ _ (omega (arith, ints)) (omega (arith, ints))
after_on_square BackTurn ColumnMirror n place = same_place _ _ (omega (arith, ints)) (omega (arith, ints))
after_on_square BackTurn DownMirror n place = same_place _ _ (omega (arith, ints)) (omega (arith, ints))
after_on_square BackTurn UpMirror n place = same_place _ _ (omega (arith, ints)) (omega (arith, ints))
after_on_square RowMirror HalfTurn n place = same_place _ _ (omega (arith, ints)) (omega (arith, ints))
after_on_square RowMirror QuarterTurn n place = same_place _ _ (omega (arith, ints)) (omega (arith, ints))
after_on_square RowMirror BackTurn n place = same_place _ _ (omega (arith, ints)) (omega (arith, ints))
after_on_square RowMirror RowMirror n place = same_place _ _ (omega (arith, ints)) (omega (arith, ints))
after_on_square RowMirror ColumnMirror n place = same_place _ _ (omega (arith, ints)) (omega (arith, ints))
after_on_square RowMirror DownMirror n place = same_place _ _ (omega (arith, ints)) (omega (arith, ints))
after_on_square RowMirror UpMirror n place = same_place _ _ (omega (arith, ints)) (omega (arith, ints))
after_on_square ColumnMirror HalfTurn n place = same_place _ _ (omega (arith, ints)) (omega (arith, ints))
after_on_square ColumnMirror QuarterTurn n place = same_place _ _ (omega (arith, ints)) (omega (arith, ints))
after_on_square ColumnMirror BackTurn n place = same_place _ _ (omega (arith, ints)) (omega (arith, ints))
after_on_square ColumnMirror RowMirror n place = same_place _ _ (omega (arith, ints)) (omega (arith, ints))
after_on_square ColumnMirror ColumnMirror n place = same_place _ _ (omega (arith, ints)) (omega (arith, ints))
after_on_square ColumnMirror DownMirror n place = same_place _ _ (omega (arith, ints)) (omega (arith, ints))
after_on_square ColumnMirror UpMirror n place = same_place _ _ (omega (arith, ints)) (omega (arith, ints))
after_on_square DownMirror HalfTurn n place = same_place _ _ (omega (arith, ints)) (omega (arith, ints))
after_on_square DownMirror QuarterTurn n place = same_place _ _ (omega (arith, ints)) (omega (arith, ints))
after_on_square DownMirror BackTurn n place = same_place _ _ (omega (arith, ints)) (omega (arith, ints))
after_on_square DownMirror RowMirror n place = same_place _ _ (omega (arith, ints)) (omega (arith, ints))
after_on_square DownMirror ColumnMirror n place = same_place _ _ (omega (arith, ints)) (omega (arith, ints))
after_on_square DownMirror DownMirror n place = same_place _ _ (omega (arith, ints)) (omega (arith, ints))
after_on_square DownMirror UpMirror n place = same_place _ _ (omega (arith, ints)) (omega (arith, ints))
after_on_square UpMirror HalfTurn n place = same_place _ _ (omega (arith, ints)) (omega (arith, ints))
after_on_square UpMirror QuarterTurn n place = same_place _ _ (omega (arith, ints)) (omega (arith, ints))
after_on_square UpMirror BackTurn n place = same_place _ _ (omega (arith, ints)) (omega (arith, ints))
after_on_square UpMirror RowMirror n place = same_place _ _ (omega (arith, ints)) (omega (arith, ints))
after_on_square UpMirror ColumnMirror n place = same_place _ _ (omega (arith, ints)) (omega (arith, ints))
after_on_square UpMirror DownMirror n place = same_place _ _ (omega (arith, ints)) (omega (arith, ints))
after_on_square UpMirror UpMirror n place = same_place _ _ (omega (arith, ints)) (omega (arith, ints))

-- on any grid, for motions that leave rows rows
after_on_grid : (motion other : Motion) (height width : ℕ) (place : Place) → exchanges motion ≡ false → exchanges other ≡ false
    → image_of motion height width (image_of other height width place) ≡ image_of (after motion other) height width (image_of motion height width place)
after_on_grid HalfTurn HalfTurn height width place first second = refl
after_on_grid HalfTurn QuarterTurn height width place first second = cc
after_on_grid HalfTurn BackTurn height width place first second = cc
after_on_grid HalfTurn RowMirror height width place first second = refl
after_on_grid HalfTurn ColumnMirror height width place first second = refl
after_on_grid HalfTurn DownMirror height width place first second = cc
after_on_grid HalfTurn UpMirror height width place first second = cc
after_on_grid QuarterTurn other height width place first second = cc
after_on_grid BackTurn other height width place first second = cc
after_on_grid RowMirror HalfTurn height width place first second = refl
after_on_grid RowMirror QuarterTurn height width place first second = cc
after_on_grid RowMirror BackTurn height width place first second = cc
after_on_grid RowMirror RowMirror height width place first second = refl
after_on_grid RowMirror ColumnMirror height width place first second = refl
after_on_grid RowMirror DownMirror height width place first second = cc
after_on_grid RowMirror UpMirror height width place first second = cc
after_on_grid ColumnMirror HalfTurn height width place first second = refl
after_on_grid ColumnMirror QuarterTurn height width place first second = cc
after_on_grid ColumnMirror BackTurn height width place first second = cc
after_on_grid ColumnMirror RowMirror height width place first second = refl
after_on_grid ColumnMirror ColumnMirror height width place first second = refl
after_on_grid ColumnMirror DownMirror height width place first second = cc
after_on_grid ColumnMirror UpMirror height width place first second = cc
after_on_grid DownMirror other height width place first second = cc
after_on_grid UpMirror other height width place first second = cc

pub after-image : (motion other : Motion) (height width : ℕ) (place : Place) → (exchanges motion ≡ true → height ≡ width) → (exchanges other ≡ true → height ≡ width)
    → image_of motion height width (image_of other height width place) ≡ image_of (after motion other) height width (image_of motion height width place)
after-image motion other height width place first second = by_cases (exchanges motion) (exchanges other) refl refl
  where
    on_square : height ≡ width → image_of motion height width (image_of other height width place) ≡ image_of (after motion other) height width (image_of motion height width place)
    on_square same = subst (λ n. image_of motion height n (image_of other height n place) ≡ image_of (after motion other) height n (image_of motion height n place)) same (after_on_square motion other height place)

    by_cases : (a b : Bool) → exchanges motion ≡ a → exchanges other ≡ b
        → image_of motion height width (image_of other height width place) ≡ image_of (after motion other) height width (image_of motion height width place)
    by_cases true b is is' = on_square (first is)
    by_cases false true is is' = on_square (second is')
    by_cases false false is is' = after_on_grid motion other height width place is is'

-- every place has the value of its image
abbrev IsKept : (ℤ → ℤ → Bool) → ℕ → ℕ → Motion → Type 0
IsKept value height width motion = (place : Place) → let to = image_of motion height width place in value to.y to.x ≡ value place.y place.x

either : (P : Motion → Type 0) (b : Bool) (m n : Motion) → P m → P n → P (cond b m n)
either P true m n one other = one
either P false m n one other = other

-- so it has under what comes after the motion in place of a generator
module _ (motion : Motion) (height width : ℕ) (value : ℤ → ℤ → Bool) where
  back_kept : height ≡ width → IsKept value height width QuarterTurn → IsKept value height width BackTurn
  back_kept square kept = λ place.
      sym (kept (image_of BackTurn height width place))
      ∙ ap (λ p. value p.y p.x) (image_of-inverse BackTurn height width place (λ exchanged. square))

  row_kept : height ≡ width → IsKept value height width QuarterTurn → IsKept value height width ColumnMirror → IsKept value height width RowMirror
  row_kept square kept mirrored = λ place.
      ap (λ p. value p.y p.x) (half_of place)
      ∙ kept (image_of QuarterTurn height width (image_of ColumnMirror height width place)) ∙ kept (image_of ColumnMirror height width place) ∙ mirrored place
    where
      half_of : (place : Place) → image_of RowMirror height width place ≡ image_of QuarterTurn height width (image_of QuarterTurn height width (image_of ColumnMirror height width place))
      half_of place = same_place _ _ (omega (arith, ints, square)) (omega (arith, ints, square))

  after_kept : (symmetry : Symmetry) → fits symmetry height width ≡ true → keeps_symmetry motion symmetry ≡ true → IsSymmetric symmetry height width value
      → Each (λ other. IsKept value height width (after motion other)) (generators_of symmetry)
  after_kept C1 fitting kept symmetric = tt
  after_kept C2 fitting kept symmetric = (λ place. symmetric 0 place (lit< tt), tt)
  after_kept C4 fitting kept symmetric =
      let square : height ≡ width = fits-square C4 height width 0 fitting (lit< tt) refl in
      let quarter : IsKept value height width QuarterTurn = λ place. symmetric 0 place (lit< tt) in
      (either (IsKept value height width) (is_turn motion) QuarterTurn BackTurn quarter (back_kept square quarter), tt)
  after_kept D2Row fitting kept symmetric =
      let stays : exchanges motion ≡ false = where_apart (exchanges motion) kept in
      (subst (λ b. IsKept value height width (cond b ColumnMirror RowMirror)) (sym stays) (λ place. symmetric 0 place (lit< tt)), tt)
  after_kept D2Col fitting kept symmetric =
      let stays : exchanges motion ≡ false = where_apart (exchanges motion) kept in
      (subst (λ b. IsKept value height width (cond b RowMirror ColumnMirror)) (sym stays) (λ place. symmetric 0 place (lit< tt)), tt)
  after_kept D2Down fitting kept symmetric =
      let stays : swaps_diagonals motion ≡ false = where_apart (swaps_diagonals motion) kept in
      (subst (λ b. IsKept value height width (cond b UpMirror DownMirror)) (sym stays) (λ place. symmetric 0 place (lit< tt)), tt)
  after_kept D2Up fitting kept symmetric =
      let stays : swaps_diagonals motion ≡ false = where_apart (swaps_diagonals motion) kept in
      (subst (λ b. IsKept value height width (cond b DownMirror UpMirror)) (sym stays) (λ place. symmetric 0 place (lit< tt)), tt)
  after_kept D4Plus fitting kept symmetric =
      let row : IsKept value height width RowMirror = λ place. symmetric 0 place (lit< tt) in
      let column : IsKept value height width ColumnMirror = λ place. symmetric 1 place (lit< tt) in
      (either (IsKept value height width) (exchanges motion) ColumnMirror RowMirror column row, (either (IsKept value height width) (exchanges motion) RowMirror ColumnMirror row column, tt))
  after_kept D4Cross fitting kept symmetric =
      let down : IsKept value height width DownMirror = λ place. symmetric 0 place (lit< tt) in
      let up : IsKept value height width UpMirror = λ place. symmetric 1 place (lit< tt) in
      (either (IsKept value height width) (swaps_diagonals motion) UpMirror DownMirror up down, (either (IsKept value height width) (swaps_diagonals motion) DownMirror UpMirror down up, tt))
  after_kept D8 fitting kept symmetric =
      let square : height ≡ width = fits-square D8 height width 0 fitting (lit< tt) refl in
      let quarter : IsKept value height width QuarterTurn = λ place. symmetric 0 place (lit< tt) in
      let column : IsKept value height width ColumnMirror = λ place. symmetric 1 place (lit< tt) in (
        either (IsKept value height width) (is_turn motion) QuarterTurn BackTurn quarter (back_kept square quarter),
        (either (IsKept value height width) (exchanges motion) RowMirror ColumnMirror (row_kept square quarter column) column, tt),
      )

-- and the values of the images are symmetric
pub IsSymmetric-image : (symmetry : Symmetry) (motion : Motion) (height width : ℕ) (value images : ℤ → ℤ → Bool) → (exchanges motion ≡ true → height ≡ width)
    → fits symmetry height width ≡ true → keeps_symmetry motion symmetry ≡ true
    → ((place : Place) → let to = image_of motion height width place in images place.y place.x ≡ value to.y to.x)
    → IsSymmetric symmetry height width value → IsSymmetric symmetry height width images
IsSymmetric-image symmetry motion height width value images square fitting kept are symmetric = λ k place within.
    let other = generator_at symmetry k in
    let later = All-from_recursion (λ other. IsKept value height width (after motion other)) (generators_of symmetry) (after_kept motion height width value symmetry fitting kept symmetric) k HalfTurn within in
    are (image_of other height width place)
    ∙ ap (λ p. value p.y p.x) (after-image motion other height width place square (fits-square symmetry height width k fitting within))
    ∙ later (image_of motion height width place)
    ∙ sym (are place)
