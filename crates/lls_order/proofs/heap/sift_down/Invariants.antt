use Rattle.std.proofs.Common.{◌-◌}
use Rattle.lls_order.proofs.Sinking.{IsSinking}
use Rattle.lls_order.proofs.heap.sift_down.Given as goal

abbrev pub invariant-loop-child : goal.invariant-loop-child
invariant-loop-child l = IsSinking l.activities l.initial.heap l.initial.places l.count l.heap l.places l.at

abbrev pub decreases-loop-child : goal.decreases-loop-child
decreases-loop-child l = l.count - l.at
