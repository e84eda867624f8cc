use Rattle.std.proofs.Common.{ap, sym, ◌∙◌, subst}
use Rattle.lls_store.specs.Trail.{TrailState}
use Rattle.lls_store.specs.Store.{GoesOn}
use Rattle.lls_solver.proofs.Kept.{sound_kept, sound_moved}
use Rattle.lls_solver.proofs.Waiting.{waiting_on}
use Rattle.lls_solver.proofs.Below.{closed_below_on}
use Rattle.lls_solver.proofs.course.Course.propagate.Goals as goal

pub propagate-conflict-requires-clause-sound : goal.propagate-conflict-requires-clause-sound
propagate-conflict-requires-clause-sound g c = sound_moved (g.S.Store.state c.args.store.now) c.args.self.now c.self.inside.trail (sym c.self.view_is) c.requires.on_course.sound

pub invariant_of-self : goal.invariant_of-self
invariant_of-self g c =
    let on = c.propagate-conflict.ensures.grown in
    let vars = sym (ap (λ (t : TrailState). t.vars) on.grown) in
    record {
      is_trail = c.current-level.ensures.kept;
      order_vars = c.self.invariant.order_vars ∙ vars;
      phase_each = c.self.invariant.phase_each ∙ vars;
      bumped_each = c.self.invariant.bumped_each ∙ vars;
      waiting = waiting_on c.self.inside.trail c.propagate-conflict.new.trail c.self.inside.order.order on c.self.invariant.waiting;
    }

pub returns-clause-on_course : goal.returns-clause-on_course
returns-clause-on_course g c =
    let store = g.S.Store.state c.args.store.now in
    let new = c.propagate-conflict.new.trail in
    record {
      sound = sound_kept (g.S.Store.state c.propagate-conflict.new.self) store new c.propagate-conflict.ensures.state c.propagate-conflict.ensures.sound;
      closed_below = closed_below_on store.live c.args.self.now new (subst (λ (t : TrailState). GoesOn t new) c.self.view_is c.propagate-conflict.ensures.grown) c.requires.on_course.closed_below;
    }
