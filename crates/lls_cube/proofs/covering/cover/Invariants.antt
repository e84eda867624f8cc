use Rattle.std.proofs.Common.{◌≡◌, fold, []}
use Rattle.std.specs.List.{range_with_len}
use Rattle.lls_cube.specs.Cover.{after_row}
use Rattle.lls_cube.proofs.covering.cover.Given as goal

-- the cubes that the rows so far have chosen
abbrev pub invariant-loop-row : goal.invariant-loop-row
invariant-loop-row g l = l.cubes.items ≡ fold (after_row l.table g.row.K) [] (range_with_len 0 l.row)
