-- Generation 0 of the image of a history is a listed pattern only where generation 0 of the history is one.
use Rattle.std.proofs.Common.{◌≡◌, ◌<◌, ◌≤◌, ℕ, ◌*◌, unsigned_abs, true, false, [], ◌∷◌, length, get_or, refl, sym, ap, ◌∙◌, subst, arith, ◌==◌, eqb-true}
use Rattle.std.specs.List.{list_any, flat_map}
use Rattle.std.proofs.Math.Nat.{mul-le-mul_left, mul_assoc}
use Rattle.std.proofs.lemmas.Bool.{and_parts}
use Rattle.std.proofs.lemmas.List.{ext_get_or, get_or_append_left}
use Rattle.std.proofs.lemmas.List.Concat.{flat_map-cons}
use Rattle.std.proofs.lemmas.List.Folds.{Any-from_list_any}
use Rattle.std.proofs.lemmas.List.Sums.{AllPass-from_list_all}
use Rattle.lls_grid.specs.declared.sizes.Sizes.{Sizes}
use Rattle.lls_grid.specs.Sizes.{IsInside, cell_count, index_of}
use Rattle.lls_grid.specs.History.{History, HasSizes, cells_of, cells_of_rows, rows_at}
use Rattle.lls_grid.proofs.InOrder.{shape_at, length-flat_map_even}
use Rattle.lls_search_file.specs.Posed.{IsPosed, sizes_of}
use Rattle.lls_symmetry.specs.declared.motion.Motion.{Motion}
use Rattle.lls_symmetry.specs.declared.motion.Motion.TheVariants.{HalfTurn, QuarterTurn, BackTurn, RowMirror, ColumnMirror, DownMirror, UpMirror}
use Rattle.lls_symmetry.specs.Motion.{Place, image_of, cell_place, exchanges, inverse}
use Rattle.lls_symmetry.proofs.Grids.{image-on_grid}
use Rattle.lls_symmetry.proofs.Symmetric.{row-on_grid, pos-unsigned_abs, cell_place-on_grid, IsOnGrid-cell}
use Rattle.lls_symmetry.proofs.Laws.{image_of-inverse}
use Rattle.lls_problem.specs.Problem.{PosedProblem, Pattern, AreOfSize}
use Rattle.lls_problem.specs.Bounds.{grid_size}
use Rattle.lls_problem.specs.Solution.{IsUnlisted}
use Rattle.lls_problem.specs.Judgement.{HasItsSizes}
use Rattle.lls_images.specs.Image.{place_at, image_index}
use Rattle.lls_images.specs.Same.{is_image_at, is_image, keeps_listed}
use Rattle.lls_images.proofs.Tests.{all_each}
use Rattle.lls_images.proofs.Places.{IsInside-place_at, index_of-place_at, image_index-by_place, image-first_generation}
use Rattle.lls_images.proofs.Images.{cells_of-image}
use Rattle.lls_images.proofs.Neighbours.{same_bits}
use Rattle.lls_images.proofs.Everywhere.{imaged, sizes-image}

-- each place is the image of one
pub image_of-onto : (motion : Motion) (height width : ℕ) (place : Place) → (exchanges motion ≡ true → height ≡ width)
    → image_of motion height width (image_of (inverse motion) height width place) ≡ place
image_of-onto HalfTurn height width place square = image_of-inverse HalfTurn height width place square
image_of-onto QuarterTurn height width place square = image_of-inverse BackTurn height width place square
image_of-onto BackTurn height width place square = image_of-inverse QuarterTurn height width place square
image_of-onto RowMirror height width place square = image_of-inverse RowMirror height width place square
image_of-onto ColumnMirror height width place square = image_of-inverse ColumnMirror height width place square
image_of-onto DownMirror height width place square = image_of-inverse DownMirror height width place square
image_of-onto UpMirror height width place square = image_of-inverse UpMirror height width place square

exchanges-inverse : (motion : Motion) → exchanges (inverse motion) ≡ exchanges motion
exchanges-inverse HalfTurn = refl
exchanges-inverse QuarterTurn = refl
exchanges-inverse BackTurn = refl
exchanges-inverse RowMirror = refl
exchanges-inverse ColumnMirror = refl
exchanges-inverse DownMirror = refl
exchanges-inverse UpMirror = refl

pub square-inverse : (motion : Motion) (height width : ℕ) → (exchanges motion ≡ true → height ≡ width) → exchanges (inverse motion) ≡ true → height ≡ width
square-inverse motion height width square is = square (sym (exchanges-inverse motion) ∙ is)

-- the image of a cell of generation 0 is one of it
pub image_index-forth : (motion : Motion) (sizes : Sizes) (k : ℕ) → (exchanges motion ≡ true → sizes.height ≡ sizes.width) → 0 < sizes.width → 0 < sizes.height → k < cell_count sizes
    → k < sizes.width * sizes.height → image_index motion sizes k < sizes.width * sizes.height
image_index-forth motion sizes k square wide high below first =
    let p = place_at sizes k in
    let inside = IsInside-place_at sizes k wide high below in
    let q = image_of motion sizes.height sizes.width (cell_place p.y p.x) in
    let on = image-on_grid motion sizes.height sizes.width (cell_place p.y p.x) square (IsOnGrid-cell sizes.height sizes.width p.y p.x inside.row inside.column) in
    let number = image_index-by_place motion sizes k p (unsigned_abs q.y) (unsigned_abs q.x) (index_of sizes (record { t = p.t; y = unsigned_abs q.y; x = unsigned_abs q.x }))
    inside (index_of-place_at sizes k) (pos-unsigned_abs q.y on.top) (pos-unsigned_abs q.x on.left) refl in
    subst (λ i. i < sizes.width * sizes.height) number
    (image-first_generation motion sizes k p (unsigned_abs q.y) (unsigned_abs q.x) _ inside (index_of-place_at sizes k) wide high
    (row-on_grid sizes.height q.y on.top on.bottom) (row-on_grid sizes.width q.x on.left on.right) refl first)

-- so is each cell by its number, and in generation 0 that of one of generation 0
module _ (motion : Motion) (sizes : Sizes) (k : ℕ) (square : exchanges motion ≡ true → sizes.height ≡ sizes.width) (wide : 0 < sizes.width) (high : 0 < sizes.height) (below : k < cell_count sizes) where
  image_index-onto : image_index motion sizes (image_index (inverse motion) sizes k) ≡ k
  image_index-onto =
      let p = place_at sizes k in
      let inside = IsInside-place_at sizes k wide high below in
      let q = image_of (inverse motion) sizes.height sizes.width (cell_place p.y p.x) in
      let on = image-on_grid (inverse motion) sizes.height sizes.width (cell_place p.y p.x) (square-inverse motion sizes.height sizes.width square) (IsOnGrid-cell sizes.height sizes.width p.y p.x inside.row inside.column) in
      let from : IsInside sizes (record { t = p.t; y = unsigned_abs q.y; x = unsigned_abs q.x }) =
      record { generation = inside.generation; row = row-on_grid sizes.height q.y on.top on.bottom; column = row-on_grid sizes.width q.x on.left on.right } in
      let first = image_index-by_place (inverse motion) sizes k p (unsigned_abs q.y) (unsigned_abs q.x) (index_of sizes (record { t = p.t; y = unsigned_abs q.y; x = unsigned_abs q.x }))
      inside (index_of-place_at sizes k) (pos-unsigned_abs q.y on.top) (pos-unsigned_abs q.x on.left) refl in
      let back : image_of motion sizes.height sizes.width (cell_place (unsigned_abs q.y) (unsigned_abs q.x)) ≡ cell_place p.y p.x =
      ap (image_of motion sizes.height sizes.width) (cell_place-on_grid sizes.height sizes.width q on) ∙ image_of-onto motion sizes.height sizes.width (cell_place p.y p.x) square in
      let second = image_index-by_place motion sizes (index_of sizes (record { t = p.t; y = unsigned_abs q.y; x = unsigned_abs q.x })) (record { t = p.t; y = unsigned_abs q.y; x = unsigned_abs q.x }) p.y p.x (index_of sizes p)
      from refl (sym (ap (λ r. r.y) back)) (sym (ap (λ r. r.x) back)) refl in
      ap (image_index motion sizes) (sym first) ∙ sym second ∙ index_of-place_at sizes k

  image_index-first : k < sizes.width * sizes.height → image_index (inverse motion) sizes k < sizes.width * sizes.height
  image_index-first first = image_index-forth (inverse motion) sizes k (square-inverse motion sizes.height sizes.width square) wide high below first

-- the cells of generation 0
pub length-beginning : (generations height width : ℕ) (history : History) → HasSizes generations height width history → 0 < generations
    → length (cells_of_rows (rows_at history 0)) ≡ width * height
length-beginning generations height width history sizes some =
    let parts = and_parts _ _ (shape_at height width history 0 sizes.1 (subst (λ n. 0 < n) (sym sizes.0) some)) in
    length-flat_map_even (λ row. row) (λ row. length row == width) width (λ row same. eqb-true (length row) width same) (rows_at history 0) parts.1
    ∙ ap (λ n. width * n) (eqb-true (length (rows_at history 0)) height parts.0)

beginning-cells_of : (history : History) (k : ℕ) → 0 < length history → k < length (cells_of_rows (rows_at history 0))
    → get_or (cells_of history) k false ≡ get_or (cells_of_rows (rows_at history 0)) k false
beginning-cells_of [] k some below = absurd (omega arith)
beginning-cells_of (rows ∷ history) k some below =
    ap (λ cells. get_or cells k false) (flat_map-cons cells_of_rows rows history) ∙ get_or_append_left (cells_of_rows rows) (flat_map cells_of_rows history) false k below

first_below : (size generations k : ℕ) → 0 < generations → k < size → k < size * generations
first_below size generations k some below =
    let more : size * 1 ≤ size * generations = mul-le-mul_left size (omega arith) in
    omega (arith, more, below)

module _ (p : PosedProblem) (motion : Motion) (h : History) (square : exchanges motion ≡ true → p.posed.height ≡ p.posed.width) (sizes : HasItsSizes p h) (posed : IsPosed p.posed) where
  abbrev size : ℕ
  size = p.posed.width * p.posed.height

  pub below : (k : ℕ) → k < size → k < cell_count (sizes_of p.posed)
  below k first = subst (λ n. k < n) (mul_assoc p.posed.width p.posed.height p.posed.generations) (first_below size p.posed.generations k posed.generations.0 first)

  -- a cell of generation 0 of the image, by one of the history
  pub beginning-image : (k : ℕ) → k < size → get_or (cells_of_rows (rows_at (imaged p motion h) 0)) k false
      ≡ get_or (cells_of_rows (rows_at h 0)) (image_index motion (sizes_of p.posed) k) false
  beginning-image k first =
      let j = image_index motion (sizes_of p.posed) k in
      let j_first = image_index-forth motion (sizes_of p.posed) k square posed.width.0 posed.height.0 (below k first) first in
      let sizes' = sizes-image p motion h square sizes in
      sym (beginning-cells_of (imaged p motion h) k (subst (λ n. 0 < n) (sym sizes'.0) posed.generations.0)
      (subst (λ n. k < n) (sym (length-beginning p.posed.generations p.posed.height p.posed.width (imaged p motion h) sizes' posed.generations.0)) first))
      ∙ cells_of-image motion (sizes_of p.posed) h k square sizes posed.height.0 posed.width.0 (below k first)
      ∙ beginning-cells_of h j (subst (λ n. 0 < n) (sym sizes.0) posed.generations.0) (subst (λ n. j < n) (sym (length-beginning p.posed.generations p.posed.height p.posed.width h sizes posed.generations.0)) j_first)

  -- a cell of generation 0 of the history, by one of the image
  beginning-onto : (k : ℕ) → k < size → get_or (cells_of_rows (rows_at h 0)) k false
      ≡ get_or (cells_of_rows (rows_at (imaged p motion h) 0)) (image_index (inverse motion) (sizes_of p.posed) k) false
  beginning-onto k first =
      let j = image_index (inverse motion) (sizes_of p.posed) k in
      let j_first = image_index-first motion (sizes_of p.posed) k square posed.width.0 posed.height.0 (below k first) first in
      let sizes' = sizes-image p motion h square sizes in
      sym (beginning-cells_of h k (subst (λ n. 0 < n) (sym sizes.0) posed.generations.0) (subst (λ n. k < n) (sym (length-beginning p.posed.generations p.posed.height p.posed.width h sizes posed.generations.0)) first))
      ∙ ap (λ i. get_or (cells_of h) i false) (sym (image_index-onto motion (sizes_of p.posed) k square posed.width.0 posed.height.0 (below k first)))
      ∙ sym (cells_of-image motion (sizes_of p.posed) h j square sizes posed.height.0 posed.width.0 (below j j_first))
      ∙ beginning-cells_of (imaged p motion h) j (subst (λ n. 0 < n) (sym sizes'.0) posed.generations.0)
      (subst (λ n. j < n) (sym (length-beginning p.posed.generations p.posed.height p.posed.width (imaged p motion h) sizes' posed.generations.0)) j_first)

  -- a listed pattern is the image of one
  before_listed : AreOfSize p.posed p.demands.listed → keeps_listed motion p.posed p.demands.listed ≡ true → (k : ℕ) (d : Pattern) → k < length p.demands.listed
      → cells_of_rows (rows_at (imaged p motion h) 0) ≡ get_or p.demands.listed k d
      → (j : ℕ) × (other : Pattern) × (j < length p.demands.listed) × (get_or p.demands.listed j other ≡ other) × (cells_of_rows (rows_at h 0) ≡ other)
  before_listed listed kept k d k_in is =
      let pattern = get_or p.demands.listed k d in
      let found = Any-from_list_any (is_image motion (sizes_of p.posed) (grid_size p.posed) pattern) p.demands.listed
      (AllPass-from_list_all (λ pattern. list_any (is_image motion (sizes_of p.posed) (grid_size p.posed) pattern) p.demands.listed) p.demands.listed kept k d k_in) in
      let j = found.0 in
      let other = found.1 in
      let long = length-beginning p.posed.generations p.posed.height p.posed.width h sizes posed.generations.0 in
      let long' : length other ≡ size = ap length (sym found.3) ∙ listed.sized j other found.2 in (
        j,
        other,
        found.2,
        found.3,
        ext_get_or false (cells_of_rows (rows_at h 0)) other (long ∙ sym long') (λ i i_in.
            let first : i < size = subst (λ n. i < n) long i_in in
            let j' = image_index (inverse motion) (sizes_of p.posed) i in
            let j'_first = image_index-first motion (sizes_of p.posed) i square posed.width.0 posed.height.0 (below i first) first in
            beginning-onto i first ∙ ap (λ cells. get_or cells j' false) is
            ∙ same_bits _ _ (all_each (is_image_at motion (sizes_of p.posed) pattern other) (grid_size p.posed) j' found.4 j'_first)
            ∙ ap (λ i. get_or other i false) (image_index-onto motion (sizes_of p.posed) i square posed.width.0 posed.height.0 (below i first))),
      )

  pub IsUnlisted-image : AreOfSize p.posed p.demands.listed → keeps_listed motion p.posed p.demands.listed ≡ true → IsUnlisted p h → IsUnlisted p (imaged p motion h)
  IsUnlisted-image listed kept unlisted = λ k d k_in is.
      let found = before_listed listed kept k d k_in is in
      unlisted found.0 found.1 found.2 (found.4 ∙ sym found.3)
