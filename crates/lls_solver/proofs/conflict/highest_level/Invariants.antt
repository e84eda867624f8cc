use Rattle.std.proofs.Common.{◌≤◌, take}
use Rattle.lls_solver.specs.Conflict.{IsHighest}
use Rattle.lls_solver.proofs.conflict.highest_level.Given as goal

abbrev pub invariant-loop-lit : goal.invariant-loop-lit
invariant-loop-lit l = record {
  highest : IsHighest l.trail (take l.lit-index l.lits) l.highest;
  most : l.highest ≤ l.trail.current;
}
