use Rattle.std.proofs.Common.{◌≡◌, ◌/◌, ◌^◌, ◌++◌, map, take, drop}
use Rattle.lls_order.proofs.heap_order.shift_all.Given as goal

abbrev pub invariant-loop-activity : goal.invariant-loop-activity
invariant-loop-activity l = l.activities ≡ map (λ a. a / 2 ^ l.power) (take l.activity-index l.initial.activities) ++ drop l.activity-index l.initial.activities
