use Rattle.std.proofs.Common.{◌≡◌, ◌≤◌, length}
use Rattle.lls_solver.proofs.glue.LevelStamps.glue.Given as goal

abbrev pub invariant-loop-lit : goal.invariant-loop-lit
invariant-loop-lit l = record {
  stamps : length l.self.stamps.items ≡ length l.initial.self.stamps.items;
  most : l.glue ≤ l.lit-index;
}
