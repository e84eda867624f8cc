-- What motions are to one another, and after how many times each is nothing.
use Rattle.std.proofs.Common.{◌≡◌, ℕ, true, refl, arith}
use Rattle.std.proofs.lemmas.Int.{ints}
use Rattle.lls_symmetry.specs.declared.motion.Motion.{Motion}
use Rattle.lls_symmetry.specs.declared.motion.Motion.TheVariants.{HalfTurn, QuarterTurn, BackTurn, RowMirror, ColumnMirror, DownMirror, UpMirror}
use Rattle.lls_symmetry.specs.Motion.{Place, image_of, exchanges, inverse, times, order, MotionLaws}
use Rattle.lls_symmetry.proofs.Grids.{same_place}

pub times-order : (motion : Motion) (height width : ℕ) → (exchanges motion ≡ true → height ≡ width) → (place : Place)
    → times (order motion) motion height width place ≡ place
times-order HalfTurn height width square place = same_place _ _ (omega (arith, ints)) (omega (arith, ints))
times-order QuarterTurn height width square place = same_place _ _ (omega (arith, ints)) (omega (arith, ints))
times-order BackTurn height width square place = same_place _ _ (omega (arith, ints)) (omega (arith, ints))
times-order RowMirror height width square place = same_place _ _ (omega (arith, ints)) refl
times-order ColumnMirror height width square place = same_place _ _ refl (omega (arith, ints))
times-order DownMirror height width square place = refl
times-order UpMirror height width square place =
    let same : height ≡ width = square refl in
    same_place _ _ (omega (arith, ints)) (omega (arith, ints))

-- the inverse takes all places back
pub image_of-inverse : (motion : Motion) (height width : ℕ) (place : Place) → (exchanges motion ≡ true → height ≡ width)
    → image_of (inverse motion) height width (image_of motion height width place) ≡ place
image_of-inverse HalfTurn height width place square = same_place _ _ (omega (arith, ints)) (omega (arith, ints))
image_of-inverse QuarterTurn height width place square =
    let same : height ≡ width = square refl in
    same_place _ _ (omega (arith, ints)) refl
image_of-inverse BackTurn height width place square =
    let same : height ≡ width = square refl in
    same_place _ _ refl (omega (arith, ints))
image_of-inverse RowMirror height width place square = same_place _ _ (omega (arith, ints)) refl
image_of-inverse ColumnMirror height width place square = same_place _ _ refl (omega (arith, ints))
image_of-inverse DownMirror height width place square = refl
image_of-inverse UpMirror height width place square =
    let same : height ≡ width = square refl in
    same_place _ _ (omega (arith, ints)) (omega (arith, ints))

pub motion_laws : (height width : ℕ) → MotionLaws height width
motion_laws height width = record {
  mirrors = λ place. refl;
  diagonals = λ same place. same_place _ _ (omega (arith, ints)) (omega (arith, ints));
  turns = λ same place. same_place _ _ refl (omega (arith, ints));
  down = λ same place. same_place _ _ refl (omega (arith, ints));
  up = λ same place. same_place _ _ (omega (arith, ints)) (omega (arith, ints));
  back = λ motion place square. image_of-inverse motion height width place square;
}
