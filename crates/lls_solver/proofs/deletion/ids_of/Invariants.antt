use Rattle.std.proofs.Common.{◌≡◌, take}
use Rattle.lls_solver.specs.Deletion.{ids_marked}
use Rattle.lls_solver.proofs.deletion.ids_of.Given as goal

abbrev pub invariant-loop-c : goal.invariant-loop-c
invariant-loop-c g l = record { ids : l.ids.items ≡ ids_marked l.marks (take l.c (g.S.Store.state l.store).live) }
