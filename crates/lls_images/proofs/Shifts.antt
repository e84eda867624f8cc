-- Motions that take a shift to itself: a place and where it goes have images as far apart.
use Rattle.std.proofs.Common.{◌≡◌, ℕ, zero, suc, ℤ, pos, negsuc, ◌+ℤ◌, true, int_div, neg_ℤ, ◌/◌, refl, sym, ap, ◌∙◌, arith}
use Rattle.std.specs.Ordering.{int_eq}
use Rattle.std.proofs.Math.Nat.{zero-div}
use Rattle.std.proofs.lemmas.Int.{ints}
use Rattle.std.proofs.lemmas.Bool.{and_parts}
use Rattle.std.proofs.lemmas.Bool.Decides.{Decides-int_eq}
use Rattle.lls_symmetry.specs.declared.motion.Motion.{Motion}
use Rattle.lls_symmetry.specs.declared.motion.Motion.TheVariants.{HalfTurn, QuarterTurn, BackTurn, RowMirror, ColumnMirror, DownMirror, UpMirror}
use Rattle.lls_symmetry.specs.Motion.{Place, image_of, opposite}
use Rattle.lls_symmetry.proofs.Grids.{same_place}
use Rattle.lls_problem.specs.declared.demands.Period.{Period}
use Rattle.lls_images.specs.Same.{keeps_shift}

-- where a place is after a shift
abbrev pub shifted : ℤ → ℤ → Place → Place
shifted dy dx place = record { y = place.y +ℤ dy; x = place.x +ℤ dx }

-- the motion takes a shift to itself
abbrev pub IsShiftKept : Motion → ℤ → ℤ → Type 0
IsShiftKept motion dy dx = let to = image_of motion 1 1 (record { y = dy; x = dx }) in (to.y ≡ dy) × (to.x ≡ dx)

pub IsShiftKept-by_test : (motion : Motion) (period : Period) → keeps_shift motion period ≡ true → IsShiftKept motion period.dy period.dx
IsShiftKept-by_test motion period kept =
    let to = image_of motion 1 1 (record { y = period.dy; x = period.dx }) in
    let parts = and_parts (int_eq to.y period.dy) (int_eq to.x period.dx) kept in
    ((Decides-int_eq to.y period.dy).0 parts.0, (Decides-int_eq to.x period.dx).0 parts.1)

pub shifted-image : (motion : Motion) (height width : ℕ) (dy dx : ℤ) (place : Place) → IsShiftKept motion dy dx
    → image_of motion height width (shifted dy dx place) ≡ shifted dy dx (image_of motion height width place)
shifted-image HalfTurn height width dy dx place kept =
    let row = kept.0 in
    let column = kept.1 in
    same_place _ _ (omega (arith, ints, row, column)) (omega (arith, ints, row, column))
shifted-image QuarterTurn height width dy dx place kept =
    let row = kept.0 in
    let column = kept.1 in
    same_place _ _ (omega (arith, ints, row, column)) (omega (arith, ints, row, column))
shifted-image BackTurn height width dy dx place kept =
    let row = kept.0 in
    let column = kept.1 in
    same_place _ _ (omega (arith, ints, row, column)) (omega (arith, ints, row, column))
shifted-image RowMirror height width dy dx place kept =
    let row = kept.0 in
    let column = kept.1 in
    same_place _ _ (omega (arith, ints, row, column)) (omega (arith, ints, row, column))
shifted-image ColumnMirror height width dy dx place kept =
    let row = kept.0 in
    let column = kept.1 in
    same_place _ _ (omega (arith, ints, row, column)) (omega (arith, ints, row, column))
shifted-image DownMirror height width dy dx place kept =
    let row = kept.0 in
    let column = kept.1 in
    same_place _ _ (omega (arith, ints, row, column)) (omega (arith, ints, row, column))
shifted-image UpMirror height width dy dx place kept =
    let row = kept.0 in
    let column = kept.1 in
    same_place _ _ (omega (arith, ints, row, column)) (omega (arith, ints, row, column))

opposite-neg : (z : ℤ) → opposite 1 z ≡ neg_ℤ z
opposite-neg z = omega (arith, ints)

opposite-back : (z : ℤ) → opposite 1 (neg_ℤ z) ≡ z
opposite-back z = omega (arith, ints)

-- a part of a shift is kept where the shift is
opposite-part : (z : ℤ) (q : ℕ) → opposite 1 (int_div z (pos q)) ≡ int_div (opposite 1 z) (pos q)
opposite-part (pos zero) q = let none : 0 / q ≡ 0 = zero-div q in rw none refl
opposite-part (pos (suc n)) q =
    let less : opposite 1 (pos (suc n)) ≡ negsuc n = omega (arith, ints) in
    opposite-neg (pos (suc n / q)) ∙ ap (λ z. int_div z (pos q)) (sym less)
opposite-part (negsuc n) q =
    let more : opposite 1 (negsuc n) ≡ pos (suc n) = omega (arith, ints) in
    opposite-back (pos (suc n / q)) ∙ ap (λ z. int_div z (pos q)) (sym more)

pub IsShiftKept-part : (motion : Motion) (dy dx : ℤ) (q : ℕ) → IsShiftKept motion dy dx → IsShiftKept motion (int_div dy (pos q)) (int_div dx (pos q))
IsShiftKept-part HalfTurn dy dx q kept = (opposite-part dy q ∙ ap (λ z. int_div z (pos q)) kept.0, opposite-part dx q ∙ ap (λ z. int_div z (pos q)) kept.1)
IsShiftKept-part QuarterTurn dy dx q kept = (ap (λ z. int_div z (pos q)) kept.0, opposite-part dy q ∙ ap (λ z. int_div z (pos q)) kept.1)
IsShiftKept-part BackTurn dy dx q kept = (opposite-part dx q ∙ ap (λ z. int_div z (pos q)) kept.0, ap (λ z. int_div z (pos q)) kept.1)
IsShiftKept-part RowMirror dy dx q kept = (opposite-part dy q ∙ ap (λ z. int_div z (pos q)) kept.0, refl)
IsShiftKept-part ColumnMirror dy dx q kept = (refl, opposite-part dx q ∙ ap (λ z. int_div z (pos q)) kept.1)
IsShiftKept-part DownMirror dy dx q kept = (ap (λ z. int_div z (pos q)) kept.0, ap (λ z. int_div z (pos q)) kept.1)
IsShiftKept-part UpMirror dy dx q kept = (opposite-part dx q ∙ ap (λ z. int_div z (pos q)) kept.0, opposite-part dy q ∙ ap (λ z. int_div z (pos q)) kept.1)
