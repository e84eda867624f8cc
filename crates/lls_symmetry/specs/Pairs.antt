-- The pairs of cells that a symmetry makes equal.
use Rattle.std.specs.Prelude.{◌≡◌, ℕ, ℤ, pos, Bool, ◌&&◌, ◌==◌, List, [], ◌∷◌, All, unsigned_abs, if◌then◌else◌}
use Rattle.std.specs.List.{flat_map, range_with_len}
use Rattle.lls_symmetry.specs.declared.motion.Motion.{Motion}
use Rattle.lls_symmetry.specs.declared.symmetry.Symmetry.{Symmetry}
use Rattle.lls_symmetry.specs.declared.pair.Pair.{Pair}
use Rattle.lls_symmetry.specs.Motion.{Place, IsOnGrid, image_of, cell_place}
use Rattle.lls_symmetry.specs.Symmetry.{generators_of}

-- The cell and its image, where they differ. The image is a cell too, so its numbers have no sign.
abbrev pub pair_at : Motion → ℕ → ℕ → ℕ → ℕ → List Pair
pair_at motion height width y x =
    let to = image_of motion height width (cell_place y x) in
    if (unsigned_abs to.y == y) && (unsigned_abs to.x == x) then [] else
    record { from_y = y; from_x = x; to_y = unsigned_abs to.y; to_x = unsigned_abs to.x } ∷ []

-- by row, then by column
abbrev pub row_pairs : Motion → ℕ → ℕ → ℕ → List Pair
row_pairs motion height width y = flat_map (pair_at motion height width y) (range_with_len 0 width)

abbrev pub motion_pairs : ℕ → ℕ → Motion → List Pair
motion_pairs height width motion = flat_map (row_pairs motion height width) (range_with_len 0 height)

-- for each generator in its order
unfoldable pub pairs_of : Symmetry → ℕ → ℕ → List Pair
pairs_of symmetry height width = flat_map (motion_pairs height width) (generators_of symmetry)

-- every place outside the grid has the background
abbrev pub HasBackground : ℕ → ℕ → (ℤ → ℤ → Bool) → Bool → Type 0
HasBackground height width value background = (place : Place) → (IsOnGrid height width place → ⊥) → value place.y place.x ≡ background

-- the cells of a pair, and of each pair, have equal values
abbrev pub IsEqualPair : (ℤ → ℤ → Bool) → Pair → Type 0
IsEqualPair value pair = value (pos pair.from_y) (pos pair.from_x) ≡ value (pos pair.to_y) (pos pair.to_x)

abbrev pub AreEqual : (ℤ → ℤ → Bool) → List Pair → Type 0
AreEqual value pairs = All (IsEqualPair value) pairs
