use Rattle.std.proofs.Common.{◌≡◌, ◌*◌, true}
use Rattle.lls_cube.specs.Cover.{forbids_between}
use Rattle.lls_cube.proofs.table.Table.forbids_all.Given as goal

-- the rows of the words so far are out of the cube, or forbidden
abbrev pub invariant-loop-word : goal.invariant-loop-word
invariant-loop-word g l = forbids_between l.self l.cube 0 (64 * l.word) ≡ true
