use Rattle.std.proofs.Common.{◌-◌, ◌^◌, ◌<◌, ◌≤◌}
use Rattle.lls_prooflog.specs.Fronts.{AreDigits}
use Rattle.lls_prooflog.proofs.short.first_digits.Given as goal

abbrev pub invariant-loop-count : goal.invariant-loop-count
invariant-loop-count l = record {
  are_digits : AreDigits l.text l.count l.size;
  below : l.count ≤ l.most;
  small : l.size < 10 ^ l.count;
}

abbrev pub decreases-loop-count : goal.decreases-loop-count
decreases-loop-count l = l.most - l.count
