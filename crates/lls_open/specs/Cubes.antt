-- For private contracts alone: the cubes of the tables of a transition whose rule is open, taken once for all places.
use Rattle.std.specs.Prelude.{◌≡◌, Bool, List, map}
use Rattle.lls_cube.specs.declared.cube.Cube.{Cube}
use Rattle.lls_transition.specs.declared.table.TheConstants.{INPUTS}
use Rattle.lls_problem.specs.declared.form.Form.{Form}
use Rattle.lls_encode.specs.Formula.{cubes_in}
use Rattle.lls_open.specs.declared.class.SideClass.{SideClass}
use Rattle.lls_open.specs.declared.table.TheConstants.{OPEN_INPUTS}
use Rattle.lls_open.specs.declared.cubes.OpenCubes.{OpenCubes}
use Rattle.lls_open.specs.Formula.{settled_table, class_table}

-- the cubes of a class's table
abbrev pub class_cubes : Form → SideClass → List Cube
class_cubes form class = cubes_in form OPEN_INPUTS (class_table class)

-- those of the table of ten inputs, and those of each open class's
pub record AreCubes (form : Form) (low : List Bool) (classes : List SideClass) (cubes : OpenCubes) : Type 0 where
  pub settled : cubes.settled.items ≡ cubes_in form INPUTS (settled_table low classes)
  pub by_class : map (λ some. some.items) cubes.by_class.items ≡ map (class_cubes form) classes
