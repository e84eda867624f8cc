use Rattle.std.proofs.Common.{sym, ◌∙◌, ap, subst, arith}
use Rattle.lls_store.specs.Trail.{TrailState, Entry}
use Rattle.std.specs.Prelude.{List}
use Rattle.lls_solver.specs.Course.{AreWaiting}
use Rattle.lls_solver.proofs.Waiting.{waiting_all}
use Rattle.lls_solver.proofs.course.Course.new.Goals as goal

pub invariant_of-result : goal.invariant_of-result
invariant_of-result c =
    let vars = ap (λ (t : TrailState). t.vars) c.in_ok-trail.ensures in
    let order = c.in_ok-order_of.field-0.order in
    record {
      is_trail = c.current-level.ensures.kept;
      order_vars = c.in_ok-order_of.ensures.vars ∙ sym vars;
      phase_each = c.in_ok-new.ensures ∙ sym vars;
      bumped_each = omega (arith, c.in_ok-vec.field-0.ok, c.in_ok-vec.ensures.len, vars);
      waiting = subst (λ (entries : List Entry). AreWaiting entries order) (sym (ap (λ (t : TrailState). t.entries) c.in_ok-trail.ensures)) (waiting_all c.args.vars order c.in_ok-order_of.ensures.vars c.in_ok-order_of.ensures.inside);
    }
