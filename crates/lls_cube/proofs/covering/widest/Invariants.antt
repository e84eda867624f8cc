use Rattle.std.proofs.Common.{◌≡◌, fold}
use Rattle.std.specs.List.{range_with_len}
use Rattle.lls_cube.specs.Cube.{row_cube}
use Rattle.lls_cube.specs.Cover.{after_input}
use Rattle.lls_cube.proofs.covering.widest.Given as goal

-- the cube after the inputs so far
abbrev pub invariant-loop-input : goal.invariant-loop-input
invariant-loop-input g l = l.cube ≡ fold (after_input l.table g.row.K) (row_cube g.row.K l.row) (range_with_len 0 l.input)
