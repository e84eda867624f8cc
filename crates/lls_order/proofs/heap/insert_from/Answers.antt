use Rattle.std.proofs.Common.{◌∙◌, ◌+◌, ◌<◌, length, arith}
use Rattle.lls_order.specs.Heap.{ranks}
use Rattle.lls_order.proofs.Inside.{inside_of-inserted}
use Rattle.lls_order.proofs.Sifts.{at_end}
use Rattle.lls_order.proofs.Rising.{ranks-exchanged}
use Rattle.lls_order.proofs.heap.insert_from.Goals as goal

pub returns-clause-inside : goal.returns-clause-inside
returns-clause-inside c =
    c.sift_up.ensures.inside (c.args.count + 1) (omega arith)
    ∙ inside_of-inserted c.args.heap.now c.args.places.now c.exchange.new.heap c.exchange.new.places c.args.place c.args.count c.requires.within c.requires.behind c.requires.tables.inverse c.exchange.ensures.inverse c.exchange.ensures.heap

pub returns-clause-heap : goal.returns-clause-heap
returns-clause-heap c =
    let f = ranks c.args.activities.now c.args.heap.now in
    let count_in : c.args.count < length c.args.heap.now = omega (arith, c.requires.within, c.requires.behind) in
    c.sift_up.ensures.heap (c.args.count + 1)
    (at_end f (ranks c.args.activities.now c.exchange.new.heap) c.args.place c.args.count c.requires.behind (ranks-exchanged c.args.activities.now c.args.heap.now c.exchange.new.heap c.args.place c.args.count c.requires.within count_in c.exchange.ensures.heap) c.requires.heap)
