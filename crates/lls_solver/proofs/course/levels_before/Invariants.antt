use Rattle.std.proofs.Common.{◌≡◌, take}
use Rattle.lls_store.specs.Trail.{decisions}
use Rattle.lls_solver.proofs.course.levels_before.Given as goal

abbrev pub invariant-loop-k : goal.invariant-loop-k
invariant-loop-k l = record { levels : l.levels ≡ decisions (take l.k l.trail.entries) }
