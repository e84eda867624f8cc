use Rattle.lls_order.proofs.Building.{IsBuilding}
use Rattle.lls_order.proofs.heap.make_heap.Given as goal

abbrev pub invariant-loop-at : goal.invariant-loop-at
invariant-loop-at l = IsBuilding l.activities l.initial.places l.count l.heap l.places l.at
