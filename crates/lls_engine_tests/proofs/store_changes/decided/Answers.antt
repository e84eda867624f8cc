use Rattle.lls_store.proofs.SoundChanges.{IsSound-decided}
use Rattle.lls_engine_tests.proofs.store_changes.decided.Goals as goal

pub returns-clause-sound : goal.returns-clause-sound
returns-clause-sound g c = rw c.decide.ensures (IsSound-decided (g.S.Store.state c.propagate.new.self).live c.propagate.new.trail c.args.lit c.propagate.ensures.sound)
