use Rattle.std.proofs.Common.{◌≡◌, ℕ, ◌<◌, length}
use Rattle.lls_lit.specs.Formula.{value_at}
use Rattle.lls_solver.proofs.start.padded.Given as goal

abbrev pub invariant-loop-n : goal.invariant-loop-n
invariant-loop-n l = record {
  len : length l.phases.items ≡ l.n;
  values : (k : ℕ) → k < l.n → value_at l.phases.items k ≡ value_at l.given k;
}
