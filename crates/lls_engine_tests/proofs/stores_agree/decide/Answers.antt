use Rattle.lls_store.proofs.SoundChanges.{IsSound-decided}
use Rattle.lls_engine_tests.proofs.stores_agree.decide.Goals as goal

pub returns-then-is_none-clause-sound : goal.returns-then-is_none-clause-sound
returns-then-is_none-clause-sound g c = rw c.decide.ensures (IsSound-decided (g.S.Store.state c.propagate.new.self).live c.propagate.new.trail c.in_ok-lit.lit c.propagate.ensures.sound)
