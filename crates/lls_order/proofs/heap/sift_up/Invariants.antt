use Rattle.lls_order.proofs.Rising.{IsRising}
use Rattle.lls_order.proofs.heap.sift_up.Given as goal

abbrev pub invariant-loop-parent : goal.invariant-loop-parent
invariant-loop-parent l = IsRising l.activities l.initial.heap l.initial.places l.from l.heap l.places l.at

abbrev pub decreases-loop-parent : goal.decreases-loop-parent
decreases-loop-parent l = l.at
