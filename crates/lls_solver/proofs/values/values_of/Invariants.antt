use Rattle.std.proofs.Common.{◌≡◌, length}
use Rattle.lls_solver.specs.Values.{AreValues}
use Rattle.lls_solver.proofs.values.values_of.Given as goal

abbrev pub invariant-loop-n : goal.invariant-loop-n
invariant-loop-n l = record {
  len : length l.values.items ≡ l.n;
  values : AreValues l.trail.entries l.values.items;
}
