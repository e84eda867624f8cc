use Rattle.std.proofs.Common.{◌≡◌, Some, refl}
use Rattle.lls_symmetry.specs.declared.symmetry.Symmetry.{Symmetry}
use Rattle.lls_symmetry.specs.declared.symmetry.Symmetry.TheVariants.{C1, C2, C4, D2Row, D2Col, D2Down, D2Up, D4Plus, D4Cross, D8}
use Rattle.lls_symmetry.specs.Symmetry.{symmetry_text, symmetry_of}
use Rattle.lls_symmetry.proofs.symmetry.read_symmetry.Goals as goal

-- the text of each symmetry is its own
symmetry_of-text : (symmetry : Symmetry) → symmetry_of (symmetry_text symmetry) ≡ Some symmetry
symmetry_of-text C1 = refl
symmetry_of-text C2 = refl
symmetry_of-text C4 = refl
symmetry_of-text D2Row = refl
symmetry_of-text D2Col = refl
symmetry_of-text D2Down = refl
symmetry_of-text D2Up = refl
symmetry_of-text D4Plus = refl
symmetry_of-text D4Cross = refl
symmetry_of-text D8 = refl

pub returns-clause-each : goal.returns-clause-each
returns-clause-each c = symmetry_of-text
