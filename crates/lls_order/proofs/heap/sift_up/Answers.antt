use Rattle.lls_order.proofs.Rising.{IsRising-more}
use Rattle.lls_order.proofs.heap.sift_up.Goals as goal

pub loop-parent-preserved : goal.loop-parent-preserved
loop-parent-preserved c =
    IsRising-more c.args.activities.now c.args.heap.now c.args.places.now c.args.from c.loop-parent.heap c.loop-parent.places c.exchange.new.heap c.exchange.new.places c.loop-parent.at c.in-Some.parent
    c.loop-parent.invariant c.in-Some.ensures.above_zero c.in-Some.ensures.parent c.in-Some.ensures.lesser c.exchange.ensures.heap c.exchange.ensures.inverse
