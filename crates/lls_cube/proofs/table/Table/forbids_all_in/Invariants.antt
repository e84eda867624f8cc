use Rattle.std.proofs.Common.{◌≡◌, ◌*◌, true}
use Rattle.lls_cube.specs.Cover.{forbids_between}
use Rattle.lls_cube.proofs.table.Table.forbids_all_in.Given as goal

-- the rows of the word so far are out of the cube, or forbidden
abbrev pub invariant-loop-low : goal.invariant-loop-low
invariant-loop-low g l = forbids_between l.self l.cube (64 * l.word) l.low ≡ true
