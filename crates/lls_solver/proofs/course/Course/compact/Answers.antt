use Rattle.std.proofs.Common.{ap, sym, ◌∙◌}
use Rattle.lls_store.specs.Trail.{TrailState}
use Rattle.lls_solver.proofs.Kept.{sound_moved}
use Rattle.lls_solver.proofs.Forgotten.{waiting_renamed}
use Rattle.lls_solver.proofs.course.Course.compact.Goals as goal

pub compact-requires-clause-sound : goal.compact-requires-clause-sound
compact-requires-clause-sound g c = sound_moved (g.S.Store.state c.args.store.now) c.args.self.now c.self.inside.trail (sym c.self.view_is) c.requires.sound

pub invariant_of-self : goal.invariant_of-self
invariant_of-self g c =
    let old = c.self.inside.trail in
    let vars = sym (ap (λ (t : TrailState). t.vars) c.compact.ensures.renamed) in
    record {
      is_trail = c.current.ensures.kept;
      order_vars = c.self.invariant.order_vars ∙ vars;
      phase_each = c.self.invariant.phase_each ∙ vars;
      bumped_each = c.self.invariant.bumped_each ∙ vars;
      waiting = waiting_renamed (g.S.Store.state c.args.store.now).live old c.compact.new.trail c.self.inside.order.order c.compact.ensures.renamed c.self.invariant.waiting;
    }
