use Rattle.std.proofs.Common.{◌≡◌, map}
use Rattle.std.specs.Prelude.{filter}
use Rattle.std.specs.List.{range_with_len}
use Rattle.lls_cube.specs.Table.{is_forbidden}
use Rattle.lls_cube.specs.Cube.{row_cube}
use Rattle.lls_cube.proofs.cube.rows.Given as goal

-- the cubes of the rows so far
abbrev pub invariant-loop-row : goal.invariant-loop-row
invariant-loop-row g l = l.cubes.items ≡ map (row_cube g.row.K) (filter (is_forbidden l.table) (range_with_len 0 l.row))
