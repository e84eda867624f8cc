-- The symmetries: the text of each, its generators, the grids that it fits, and what it is to be symmetric.
use Rattle.std.specs.Prelude.{◌≡◌, ◌<◌, ℕ, ℤ, Bool, not, ◌||◌, ◌==◌, List, [], ◌∷◌, length, slice_index_or, codes, find, Option}
use Rattle.std.specs.List.{list_any}
use Rattle.std.specs.Str.{bytes_eq}
use Rattle.lls_symmetry.specs.declared.motion.Motion.{Motion}
use Rattle.lls_symmetry.specs.declared.motion.Motion.TheVariants.{HalfTurn, QuarterTurn, RowMirror, ColumnMirror, DownMirror, UpMirror}
use Rattle.lls_symmetry.specs.declared.symmetry.Symmetry.{Symmetry}
use Rattle.lls_symmetry.specs.declared.symmetry.Symmetry.TheVariants.{C1, C2, C4, D2Row, D2Col, D2Down, D2Up, D4Plus, D4Cross, D8}
use Rattle.lls_symmetry.specs.Motion.{Place, IsOnGrid, image_of, exchanges}

abbrev pub symmetries : List Symmetry
symmetries = C1 ∷ C2 ∷ C4 ∷ D2Row ∷ D2Col ∷ D2Down ∷ D2Up ∷ D4Plus ∷ D4Cross ∷ D8 ∷ []

abbrev pub symmetry_text : Symmetry → List ℕ
symmetry_text C1 = codes "C1"
symmetry_text C2 = codes "C2"
symmetry_text C4 = codes "C4"
symmetry_text D2Row = codes "D2-"
symmetry_text D2Col = codes "D2|"
symmetry_text D2Down = codes "D2\\"
symmetry_text D2Up = codes "D2/"
symmetry_text D4Plus = codes "D4+"
symmetry_text D4Cross = codes "D4x"
symmetry_text D8 = codes "D8"

-- the symmetry that has the text
abbrev pub symmetry_of : List ℕ → Option Symmetry
symmetry_of text = find (λ symmetry. bytes_eq (symmetry_text symmetry) text) symmetries

-- the motions that generate it, in their order
abbrev pub generators_of : Symmetry → List Motion
generators_of C1 = []
generators_of C2 = HalfTurn ∷ []
generators_of C4 = QuarterTurn ∷ []
generators_of D2Row = RowMirror ∷ []
generators_of D2Col = ColumnMirror ∷ []
generators_of D2Down = DownMirror ∷ []
generators_of D2Up = UpMirror ∷ []
generators_of D4Plus = RowMirror ∷ ColumnMirror ∷ []
generators_of D4Cross = DownMirror ∷ UpMirror ∷ []
generators_of D8 = QuarterTurn ∷ ColumnMirror ∷ []

-- they count from 0; past the last one a half turn
abbrev pub generator_at : Symmetry → ℕ → Motion
generator_at symmetry k = slice_index_or (generators_of symmetry) k HalfTurn

-- where rows become columns there are as many of both
abbrev pub fits : Symmetry → ℕ → ℕ → Bool
fits symmetry height width = not (list_any exchanges (generators_of symmetry)) || (height == width)

-- each generator takes each cell of the grid to a cell of the grid
abbrev pub KeepsGrid : Symmetry → ℕ → ℕ → Type 0
KeepsGrid symmetry height width = (k : ℕ) (place : Place) → k < length (generators_of symmetry)
    → IsOnGrid height width place → IsOnGrid height width (image_of (generator_at symmetry k) height width place)

-- under each generator every place, in the grid or outside it, has the value of its image
abbrev pub IsSymmetric : Symmetry → ℕ → ℕ → (ℤ → ℤ → Bool) → Type 0
IsSymmetric symmetry height width value = (k : ℕ) (place : Place) → k < length (generators_of symmetry)
    → let to = image_of (generator_at symmetry k) height width place in value to.y to.x ≡ value place.y place.x
