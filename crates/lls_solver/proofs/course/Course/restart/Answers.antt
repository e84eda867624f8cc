use Rattle.std.proofs.Common.{sym}
use Rattle.lls_store.specs.Changes.{cut_to}
use Rattle.lls_solver.proofs.Kept.{closed_below_kept, closed_below_moved, sound_kept, sound_moved}
use Rattle.lls_solver.proofs.Below.{closed_below_cut}
use Rattle.lls_solver.proofs.course.Course.restart.Goals as goal

pub go_back-requires-clause-sound : goal.go_back-requires-clause-sound
go_back-requires-clause-sound g c = sound_moved (g.S.Store.state c.args.store.now) c.args.self.now c.self.inside.trail (sym c.self.view_is) c.requires.on_course.sound

pub returns-clause-on_course : goal.returns-clause-on_course
returns-clause-on_course g c =
    let store = g.S.Store.state c.args.store.now in
    let new = g.S.Store.state c.go_back.new.store in
    let t = c.self.inside.trail in
    let level = c.levels_to_keep-level.result in
    let below = closed_below_cut store.live t level c.levels_to_keep-level.ensures.most (closed_below_moved store c.args.self.now t (sym c.self.view_is) c.requires.on_course.closed_below) in
    record {
      sound = sound_kept store new c.go_back.new.self (sym c.go_back.ensures.state) c.go_back.ensures.sound;
      closed_below = closed_below_kept store new c.go_back.new.self (sym c.go_back.ensures.state) (closed_below_moved store (cut_to t level) c.go_back.new.self (sym c.go_back.ensures.cut) below);
    }
