-- The cubes that a form takes of a table: they contain just its forbidden rows, care for the inputs alone, and are few.
use Rattle.std.proofs.Common.{◌≡◌, ℕ, ◌^◌, ◌<◌, ◌≤◌, List, Bool, length, arith}
use Rattle.std.specs.Prelude.{All}
use Rattle.std.specs.List.{list_any}
use Rattle.std.proofs.lemmas.List.{length-map}
use Rattle.lls_cube.specs.declared.cube.Cube.{Cube}
use Rattle.lls_cube.specs.Table.{is_forbidden, forbidden_rows}
use Rattle.lls_cube.specs.Cube.{contains, row_cube}
use Rattle.lls_cube.proofs.Listed.{list_any-cubes, All-row_cubes}
use Rattle.lls_cube.proofs.Covered.{list_any-cover, length-cover, All-inputs}
use Rattle.lls_problem.specs.declared.form.Form.{Form}
use Rattle.lls_problem.specs.declared.form.Form.TheVariants.{Rows, Cover}
use Rattle.lls_encode.specs.Formula.{cubes_in}

pub All-cubes_in : (form : Form) (k : ℕ) (table : List Bool) → length table ≡ 2 ^ k → All (λ (cube : Cube). cube.care < 2 ^ k) (cubes_in form k table)
All-cubes_in Rows k table all = All-row_cubes k (forbidden_rows table)
All-cubes_in Cover k table all = All-inputs table k all

pub list_any-cubes_in : (form : Form) (k row : ℕ) (table : List Bool) → length table ≡ 2 ^ k → row < 2 ^ k → list_any (contains row) (cubes_in form k table) ≡ is_forbidden table row
list_any-cubes_in Rows k row table all inside = list_any-cubes (is_forbidden table) k (length table) row all inside
list_any-cubes_in Cover k row table all inside = list_any-cover table k row all inside

pub length-cubes_in : (form : Form) (k : ℕ) (table : List Bool) → length (cubes_in form k table) ≤ length (forbidden_rows table)
length-cubes_in Rows k table = omega (arith, length-map (forbidden_rows table) (row_cube k))
length-cubes_in Cover k table = length-cover table k
