use Rattle.std.proofs.Common.{◌∙◌, ◌<◌, length, arith}
use Rattle.lls_order.specs.Heap.{ranks}
use Rattle.lls_order.proofs.Inside.{inside_of-removed}
use Rattle.lls_order.proofs.Sifts.{on_top}
use Rattle.lls_order.proofs.Rising.{ranks-exchanged}
use Rattle.lls_order.proofs.heap.remove_first.Goals as goal

pub returns-clause-inside : goal.returns-clause-inside
returns-clause-inside c =
    c.sift_down.ensures.inside ∙ inside_of-removed c.args.heap.now c.args.places.now c.exchange.new.heap c.exchange.new.places c.args.count c.requires.within c.requires.tables.inverse c.exchange.ensures.inverse c.exchange.ensures.heap

pub returns-clause-heap : goal.returns-clause-heap
returns-clause-heap c =
    let f = ranks c.args.activities.now c.args.heap.now in
    let some : 0 < length c.args.heap.now = omega (arith, c.requires.within) in
    c.sift_down.ensures.heap (on_top f (ranks c.args.activities.now c.exchange.new.heap) c.args.count (ranks-exchanged c.args.activities.now c.args.heap.now c.exchange.new.heap 0 c.args.count some c.requires.within c.exchange.ensures.heap) c.requires.heap)
