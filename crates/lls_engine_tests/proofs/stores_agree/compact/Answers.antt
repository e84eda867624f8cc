use Rattle.lls_store.proofs.Compacting.{IsResting-compacted}
use Rattle.lls_engine_tests.proofs.stores_agree.compact.Goals as goal

pub returns-clause-resting : goal.returns-clause-resting
returns-clause-resting g c = IsResting-compacted (g.S.Store.state c.args.pair.now.store) (g.S.Store.state c.compact.new.self) c.args.pair.now.last c.compact.ensures.state c.requires.resting
