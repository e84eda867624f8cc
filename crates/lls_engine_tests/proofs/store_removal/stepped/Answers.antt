use Rattle.lls_store.proofs.Compacting.{IsResting-compacted}
use Rattle.lls_engine_tests.proofs.store_removal.stepped.Goals as goal

pub returns-in-Compact-clause-resting : goal.returns-in-Compact-clause-resting
returns-in-Compact-clause-resting g c = IsResting-compacted (g.S.Store.state c.args.store.now) (g.S.Store.state c.compact.new.self) c.args.last c.compact.ensures.state c.requires.resting
