use Rattle.std.proofs.Common.{sym}
use Rattle.lls_solver.proofs.Kept.{sound_kept, sound_moved}
use Rattle.lls_solver.proofs.course.Course.go_back.Goals as goal

pub back_to-requires-clause-sound : goal.back_to-requires-clause-sound
back_to-requires-clause-sound g c = sound_moved (g.S.Store.state c.args.store.now) c.args.self.now c.self.inside.trail (sym c.self.view_is) c.requires.sound

pub returns-clause-sound : goal.returns-clause-sound
returns-clause-sound g c = sound_kept (g.S.Store.state c.back_to.new.self) (g.S.Store.state c.args.store.now) c.back_to.new.trail c.back_to.ensures.state c.back_to.ensures.sound
