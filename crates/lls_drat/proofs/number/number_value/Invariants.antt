use Rattle.std.proofs.Common.{◌≡◌, ◌≤◌, length, drop}
use Rattle.lls_drat.specs.Number.{number_value}
use Rattle.lls_drat.proofs.number.number_value.Given as goal

abbrev pub invariant-loop-left : goal.invariant-loop-left
invariant-loop-left l = record {
  within : l.left ≤ length l.bytes;
  value : l.value ≡ number_value (drop l.left l.bytes);
  small : l.value ≤ 33554433;
}

abbrev pub decreases-loop-left : goal.decreases-loop-left
decreases-loop-left l = l.left
