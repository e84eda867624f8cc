use Rattle.std.proofs.Common.{sym, subst}
use Rattle.lls_store.specs.Sound.{IsSound}
use Rattle.lls_store.specs.Store.{StoreState}
use Rattle.lls_engine_tests.proofs.analyse.learn.Goals as goal

pub learn-requires-clause-sound : goal.learn-requires-clause-sound
learn-requires-clause-sound g c = subst (λ (s : StoreState). IsSound s.live c.propagate.new.trail) (sym c.in_ok-reserve_conflict.ensures.state) c.propagate.ensures.sound
