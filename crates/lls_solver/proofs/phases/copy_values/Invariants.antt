use Rattle.std.proofs.Common.{◌≡◌, length}
use Rattle.lls_solver.proofs.phases.copy_values.Given as goal

abbrev pub invariant-loop-k : goal.invariant-loop-k
invariant-loop-k l = record { values : length l.values ≡ length l.initial.values }
