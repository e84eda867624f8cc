-- Values are symmetric exactly where those of the listed pairs are equal.
use Rattle.std.proofs.Common.{◌≡◌, ◌<◌, ◌↔◌, ℕ, ℤ, pos, negsuc, ◌≤ℤ◌, ◌<ℤ◌, Bool, true, false, cond, ◌&&◌, List, [], ◌∷◌, length, refl, sym, ap, ◌∙◌, subst, arith, nat_eq, eqb-true, unsigned_abs, ◌⊎◌, inl, inr}
use Rattle.std.specs.List.{AllByRecursion as Each}
use Rattle.std.proofs.lemmas.Int.{ints}
use Rattle.std.proofs.lemmas.Bool.{cases_lt}
use Rattle.std.proofs.lemmas.List.Elements.{All-from_recursion, recursion_from_All}
use Rattle.lls_symmetry.specs.declared.motion.Motion.TheVariants.{HalfTurn}
use Rattle.lls_symmetry.specs.declared.symmetry.Symmetry.{Symmetry}
use Rattle.lls_symmetry.specs.declared.pair.Pair.{Pair}
use Rattle.lls_symmetry.specs.Motion.{Place, cell_place, IsOnGrid, image_of}
use Rattle.lls_symmetry.specs.Symmetry.{generators_of, generator_at, fits, IsSymmetric}
use Rattle.lls_symmetry.specs.Pairs.{pair_at, row_pairs, motion_pairs, pairs_of, HasBackground, IsEqualPair, AreEqual}
use Rattle.lls_symmetry.proofs.Grids.{same_place, image-on_grid, image-off_grid, fits-square}
use Rattle.lls_symmetry.proofs.Everywhere.{Each-flat_map, flat_map-each, Each-range, range-each}

-- a number without a sign is its size
pub pos-unsigned_abs : (z : ℤ) → pos 0 ≤ℤ z → pos (unsigned_abs z) ≡ z
pos-unsigned_abs (pos n) low = refl
pos-unsigned_abs (negsuc n) low = absurd (omega (arith, ints))

-- a place on the grid is the cell of its numbers
pub cell_place-on_grid : (height width : ℕ) (place : Place) → IsOnGrid height width place → cell_place (unsigned_abs place.y) (unsigned_abs place.x) ≡ place
cell_place-on_grid height width place on = same_place _ _ (pos-unsigned_abs place.y on.top) (pos-unsigned_abs place.x on.left)

pub row-on_grid : (size : ℕ) (z : ℤ) → pos 0 ≤ℤ z → z <ℤ pos size → unsigned_abs z < size
row-on_grid size (pos n) low high = omega (arith, ints)
row-on_grid size (negsuc n) low high = absurd (omega (arith, ints))

pub IsOnGrid-cell : (height width y x : ℕ) → y < height → x < width → IsOnGrid height width (cell_place y x)
IsOnGrid-cell height width y x row column = record { top = omega (arith, ints); bottom = omega (arith, ints); left = omega (arith, ints); right = omega (arith, ints) }

-- a row or a column is one of the grid's or not
in_or_out : (size : ℕ) (z : ℤ) → ((pos 0 ≤ℤ z) × (z <ℤ pos size)) ⊎ ((pos 0 ≤ℤ z) × (z <ℤ pos size) → ⊥)
in_or_out size (pos n) = elim (cases_lt n size) [ inl less ↦ inl (omega (arith, ints), omega (arith, ints)) | inr more ↦ inr (λ within. absurd (omega (arith, ints, within.1))) ]
in_or_out size (negsuc n) = inr (λ within. absurd (omega (arith, ints, within.0)))

pub on_grid_or_off : (height width : ℕ) (place : Place) → IsOnGrid height width place ⊎ (IsOnGrid height width place → ⊥)
on_grid_or_off height width place = elim (in_or_out height place.y) [
  | inl row ↦ elim (in_or_out width place.x) [
    | inl column ↦ inl (record { top = row.0; bottom = row.1; left = column.0; right = column.1 })
    | inr column ↦ inr (λ on. column (on.left, on.right))
  ]
  | inr row ↦ inr (λ on. row (on.top, on.bottom))
]

-- the values of a place and of its image
abbrev pub IsKept : (ℤ → ℤ → Bool) → Place → Place → Type 0
IsKept value place to = value to.y to.x ≡ value place.y place.x

abbrev pair_of : ℕ → ℕ → Place → Pair
pair_of y x to = record { from_y = y; from_x = x; to_y = unsigned_abs to.y; to_x = unsigned_abs to.x }

kept_pair : (value : ℤ → ℤ → Bool) (y x : ℕ) (to : Place) → pos 0 ≤ℤ to.y → pos 0 ≤ℤ to.x → (b : Bool) → IsKept value (cell_place y x) to
    → Each (IsEqualPair value) (cond b [] (pair_of y x to ∷ []))
kept_pair value y x to low left true kept = tt
kept_pair value y x to low left false kept =
    (sym kept ∙ ap (λ z. value z to.x) (sym (pos-unsigned_abs to.y low)) ∙ ap (value (pos (unsigned_abs to.y))) (sym (pos-unsigned_abs to.x left)), tt)

kept_by_equal : (value : ℤ → ℤ → Bool) (y x : ℕ) (to : Place) → pos 0 ≤ℤ to.y → pos 0 ≤ℤ to.x → IsEqualPair value (pair_of y x to) → IsKept value (cell_place y x) to
kept_by_equal value y x to low left equal =
    ap (λ z. value z to.x) (sym (pos-unsigned_abs to.y low)) ∙ ap (value (pos (unsigned_abs to.y))) (sym (pos-unsigned_abs to.x left)) ∙ sym equal

pair_kept : (value : ℤ → ℤ → Bool) (y x : ℕ) (to : Place) → pos 0 ≤ℤ to.y → pos 0 ≤ℤ to.x → (row column : Bool)
    → nat_eq (unsigned_abs to.y) y ≡ row → nat_eq (unsigned_abs to.x) x ≡ column → Each (IsEqualPair value) (cond (row && column) [] (pair_of y x to ∷ []))
    → IsKept value (cell_place y x) to
pair_kept value y x to low left true true row column each =
    ap (λ z. value z to.x) (sym (pos-unsigned_abs to.y low) ∙ ap pos (eqb-true _ _ row)) ∙ ap (value (pos y)) (sym (pos-unsigned_abs to.x left) ∙ ap pos (eqb-true _ _ column))
pair_kept value y x to low left true false row column each = kept_by_equal value y x to low left each.0
pair_kept value y x to low left false column row same each = kept_by_equal value y x to low left each.0

-- where values are symmetric, those of each pair are equal
equal_by_symmetric : (symmetry : Symmetry) (height width : ℕ) (value : ℤ → ℤ → Bool) → fits symmetry height width ≡ true → IsSymmetric symmetry height width value
    → Each (IsEqualPair value) (pairs_of symmetry height width)
unfolding pairs_of
equal_by_symmetric symmetry height width value fitting symmetric =
    Each-flat_map (IsEqualPair value) (motion_pairs height width) (generators_of symmetry) HalfTurn (λ k within.
    let motion = generator_at symmetry k in
    Each-range (IsEqualPair value) (row_pairs motion height width) height (λ y row.
    Each-range (IsEqualPair value) (pair_at motion height width y) width (λ x column.
    let on = image-on_grid motion height width (cell_place y x) (fits-square symmetry height width k fitting within) (IsOnGrid-cell height width y x row column) in
    kept_pair value y x (image_of motion height width (cell_place y x)) on.top on.left _ (symmetric k (cell_place y x) within))))

-- where the cells of the grid have the values of their images, and the places outside it one background, values are symmetric
pub IsSymmetric-by_cells : (symmetry : Symmetry) (height width : ℕ) (value : ℤ → ℤ → Bool) (background : Bool) → fits symmetry height width ≡ true
    → HasBackground height width value background
    → ((k y x : ℕ) → k < length (generators_of symmetry) → y < height → x < width → IsKept value (cell_place y x) (image_of (generator_at symmetry k) height width (cell_place y x)))
    → IsSymmetric symmetry height width value
IsSymmetric-by_cells symmetry height width value background fitting blank kept = λ k place within.
    let motion = generator_at symmetry k in
    let square = fits-square symmetry height width k fitting within in
    elim (on_grid_or_off height width place) [
      | inl on ↦
          subst (λ p. IsKept value p (image_of motion height width p)) (cell_place-on_grid height width place on)
          (kept k (unsigned_abs place.y) (unsigned_abs place.x) within (row-on_grid height place.y on.top on.bottom) (row-on_grid width place.x on.left on.right))
      | inr off ↦ blank (image_of motion height width place) (λ on. off (image-off_grid motion height width place square on)) ∙ sym (blank place off)
    ]

-- so they are where those of each pair are equal
symmetric_by_equal : (symmetry : Symmetry) (height width : ℕ) (value : ℤ → ℤ → Bool) (background : Bool) → fits symmetry height width ≡ true
    → HasBackground height width value background → Each (IsEqualPair value) (pairs_of symmetry height width) → IsSymmetric symmetry height width value
unfolding pairs_of
symmetric_by_equal symmetry height width value background fitting blank each =
    IsSymmetric-by_cells symmetry height width value background fitting blank (λ k y x within row column.
    let motion = generator_at symmetry k in
    let rows = flat_map-each (IsEqualPair value) (motion_pairs height width) (generators_of symmetry) HalfTurn each k within in
    let here = range-each (IsEqualPair value) (pair_at motion height width y) width (range-each (IsEqualPair value) (row_pairs motion height width) height rows y row) x column in
    let to = image-on_grid motion height width (cell_place y x) (fits-square symmetry height width k fitting within) (IsOnGrid-cell height width y x row column) in
    pair_kept value y x (image_of motion height width (cell_place y x)) to.top to.left _ _ refl refl here)

pub IsSymmetric-by_pairs : (symmetry : Symmetry) (height width : ℕ) (pairs : List Pair) → fits symmetry height width ≡ true → pairs ≡ pairs_of symmetry height width
    → (value : ℤ → ℤ → Bool) (background : Bool) → HasBackground height width value background → IsSymmetric symmetry height width value ↔ AreEqual value pairs
IsSymmetric-by_pairs symmetry height width pairs fitting is value background blank = (
  λ symmetric. subst (λ list. AreEqual value list) (sym is) (All-from_recursion (IsEqualPair value) (pairs_of symmetry height width) (equal_by_symmetric symmetry height width value fitting symmetric)),
  λ equal. symmetric_by_equal symmetry height width value background fitting blank (recursion_from_All (IsEqualPair value) (pairs_of symmetry height width) (subst (λ list. AreEqual value list) is equal)),
)
