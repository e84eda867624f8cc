use Rattle.std.proofs.Common.{arith}
use Rattle.lls_order.proofs.Sinking.{IsSinking-more, child_below}
use Rattle.lls_order.specs.Heap.{ranks}
use Rattle.lls_order.proofs.heap.sift_down.Goals as goal

pub loop-child-preserved : goal.loop-child-preserved
loop-child-preserved c =
    IsSinking-more c.args.activities.now c.args.heap.now c.args.places.now c.args.count c.loop-child.heap c.loop-child.places c.exchange.new.heap c.exchange.new.places c.loop-child.at c.in-Some.child
    c.loop-child.invariant c.in-Some.ensures.some c.exchange.ensures.heap c.exchange.ensures.inverse

pub loop-child-smaller : goal.loop-child-smaller
loop-child-smaller c =
    omega (arith, child_below (ranks c.args.activities.now c.loop-child.heap) c.args.count c.loop-child.at c.in-Some.child c.in-Some.ensures.some, c.in-Some.ensures.some.within)
