use Rattle.lls_order.proofs.Tables.{AreInverse-exchanged}
use Rattle.lls_order.proofs.heap.exchange.Goals as goal

pub returns-clause-inverse : goal.returns-clause-inverse
returns-clause-inverse c = AreInverse-exchanged c.args.heap.now c.args.places.now c.swap.new.self c.args.first c.args.second c.requires.first_fits c.requires.second_fits c.requires.inverse c.swap.ensures.after
