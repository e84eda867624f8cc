use Rattle.std.proofs.Common.{◌≡◌, length}
use Rattle.lls_solver.proofs.start.drawn_values.Given as goal

abbrev pub invariant-loop-n : goal.invariant-loop-n
invariant-loop-n l = record { len : length l.values.items ≡ l.n }
