-- Where a cell stands in the order generation, row, column, and which cell stands there.
use Rattle.std.proofs.Common.{◌≡◌, ◌<◌, ℕ, ◌+◌, ◌*◌, ◌/◌, ◌%◌, pos, unsigned_abs, sym, ap, ◌∙◌, subst, arith}
use Rattle.std.proofs.Math.Nat.{mod-lt, mod-add-div, div-lt_iff_lt-mul, mul_comm}
use Rattle.std.proofs.lemmas.Nat.{div-mul-add, mod-mul-add, mul-add-lt}
use Rattle.lls_grid.specs.declared.sizes.Sizes.{Sizes}
use Rattle.lls_grid.specs.declared.sizes.GridPlace.{GridPlace}
use Rattle.lls_grid.specs.Sizes.{IsInside, cell_count, index_of}
use Rattle.lls_symmetry.specs.declared.motion.Motion.{Motion}
use Rattle.lls_symmetry.specs.Motion.{cell_place, image_of}
use Rattle.lls_images.specs.Image.{place_at, image_index}

make_place : ℕ → ℕ → ℕ → GridPlace
make_place t y x = record { t = t; y = y; x = x }

pub same_cell : (p q : GridPlace) → p.t ≡ q.t → p.y ≡ q.y → p.x ≡ q.x → p ≡ q
unfolding make_place
same_cell p q generation row column =
    ap (λ t. make_place t p.y p.x) generation ∙ ap (λ y. make_place q.t y p.x) row ∙ ap (make_place q.t q.y) column

-- the cell that stands where a cell does is that cell
pub place_at-index_of : (sizes : Sizes) (place : GridPlace) → IsInside sizes place → place_at sizes (index_of sizes place) ≡ place
place_at-index_of sizes place inside =
    let turned : index_of sizes place ≡ (place.y + sizes.height * place.t) * sizes.width + place.x = omega (arith, mul_comm sizes.width (place.y + sizes.height * place.t)) in
    let turned' : place.y + sizes.height * place.t ≡ place.t * sizes.height + place.y = omega (arith, mul_comm sizes.height place.t) in
    let rows : index_of sizes place / sizes.width ≡ place.y + sizes.height * place.t = ap (λ n. n / sizes.width) turned ∙ div-mul-add (place.y + sizes.height * place.t) sizes.width place.x inside.column in
    same_cell _ _
    (ap (λ n. n / sizes.height) (rows ∙ turned') ∙ div-mul-add place.t sizes.height place.y inside.row)
    (ap (λ n. n % sizes.height) (rows ∙ turned') ∙ mod-mul-add place.t sizes.height place.y inside.row)
    (ap (λ n. n % sizes.width) turned ∙ mod-mul-add (place.y + sizes.height * place.t) sizes.width place.x inside.column)

-- a cell stands at each number
pub index_of-place_at : (sizes : Sizes) (k : ℕ) → index_of sizes (place_at sizes k) ≡ k
index_of-place_at sizes k =
    ap (λ n. k % sizes.width + sizes.width * n) (mod-add-div (k / sizes.width) sizes.height) ∙ mod-add-div k sizes.width

pub IsInside-place_at : (sizes : Sizes) (k : ℕ) → 0 < sizes.width → 0 < sizes.height → k < cell_count sizes → IsInside sizes (place_at sizes k)
IsInside-place_at sizes k wide high below =
    let rows : k / sizes.width < sizes.height * sizes.generations = (div-lt_iff_lt-mul wide).1 (omega (arith, below, mul_comm sizes.width (sizes.height * sizes.generations))) in
    record {
      generation = (div-lt_iff_lt-mul high).1 (omega (arith, rows, mul_comm sizes.height sizes.generations));
      row = mod-lt (k / sizes.width) high;
      column = mod-lt k wide;
    }

-- a cell of generation 0
pub first_generation : (sizes : Sizes) (k : ℕ) → 0 < sizes.width → 0 < sizes.height → k < sizes.width * sizes.height → (place_at sizes k).t ≡ 0
first_generation sizes k wide high below =
    let rows : k / sizes.width < sizes.height = (div-lt_iff_lt-mul wide).1 (omega (arith, below, mul_comm sizes.width sizes.height)) in
    let none : k / sizes.width / sizes.height < 1 = (div-lt_iff_lt-mul high).1 (omega (arith, rows)) in
    omega (arith, none)

below_in_first : (width height x y : ℕ) → x < width → y < height → x + width * (y + height * 0) < width * height
below_in_first width height x y column row =
    let turned : y * width + x < width * height = mul-add-lt y width x height row column in
    let same : y + height * 0 ≡ y = omega arith in
    rw same (omega (arith, turned, mul_comm y width))

-- the number of a cell's image
module _ (motion : Motion) (sizes : Sizes) (k : ℕ) (place : GridPlace) (y x index : ℕ) (inside : IsInside sizes place) (at : index_of sizes place ≡ k) where
  there : place_at sizes k ≡ place
  there = ap (place_at sizes) (sym at) ∙ place_at-index_of sizes place inside

  pub image_index-by_place : pos y ≡ (image_of motion sizes.height sizes.width (cell_place place.y place.x)).y → pos x ≡ (image_of motion sizes.height sizes.width (cell_place place.y place.x)).x
      → index ≡ index_of sizes (record { t = place.t; y = y; x = x }) → index ≡ image_index motion sizes k
  unfolding image_index
  image_index-by_place row column is =
      is ∙ ap (λ y. index_of sizes (record { t = place.t; y = y; x = x })) (ap unsigned_abs row)
      ∙ ap (λ x. index_of sizes (record { t = place.t; y = unsigned_abs (image_of motion sizes.height sizes.width (cell_place place.y place.x)).y; x = x })) (ap unsigned_abs column)
      ∙ ap (λ p. index_of sizes (record { t = p.t; y = unsigned_abs (image_of motion sizes.height sizes.width (cell_place p.y p.x)).y; x = unsigned_abs (image_of motion sizes.height sizes.width (cell_place p.y p.x)).x })) (sym there)

  pub image-first_generation : 0 < sizes.width → 0 < sizes.height → y < sizes.height → x < sizes.width → index ≡ index_of sizes (record { t = place.t; y = y; x = x })
      → k < sizes.width * sizes.height → index < sizes.width * sizes.height
  image-first_generation wide high row column is below =
      let first : place.t ≡ 0 = ap (λ p. p.t) (sym there) ∙ first_generation sizes k wide high below in
      subst (λ i. i < sizes.width * sizes.height) (sym (is ∙ ap (λ t. index_of sizes (record { t = t; y = y; x = x })) first)) (below_in_first sizes.width sizes.height x y column row)
