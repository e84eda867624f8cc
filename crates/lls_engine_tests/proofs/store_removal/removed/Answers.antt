use Rattle.lls_store.proofs.Removing.{IsResting-without}
use Rattle.lls_engine_tests.proofs.store_removal.removed.Goals as goal

pub returns-clause-resting : goal.returns-clause-resting
returns-clause-resting g c = IsResting-without (g.S.Store.state c.args.store.now) (g.S.Store.state c.remove.new.self) c.args.c c.args.last c.remove.ensures.state c.requires.resting
