use Rattle.std.proofs.Common.{◌+◌, None, sym, ◌∙◌}
use Rattle.std.specs.Prelude.{pos}
use Rattle.lls_solver.proofs.Waiting.{waiting_decided, unset_other}
use Rattle.lls_solver.proofs.course.Course.decide.Goals as goal

pub invariant_of-self-2 : goal.invariant_of-self-2
invariant_of-self-2 c =
    let t = c.self.inside.trail in
    let lit = c.new.result in
    record {
      is_trail = c.current.ensures.kept;
      order_vars = rw c.decide.ensures (c.in_ok-var.ensures.vars ∙ c.self.invariant.order_vars);
      phase_each = rw c.decide.ensures (c.reach.ensures ∙ c.self.invariant.phase_each);
      bumped_each = rw c.decide.ensures c.self.invariant.bumped_each;
      waiting = rw c.decide.ensures (waiting_decided t.entries (record { lit = lit; level = t.current + 1; reason = None }) c.next_without_value.new.order.order c.in_ok-var.var c.new.ensures.var c.in_ok-var.ensures.some.others);
    }

pub returns-clause-decided : goal.returns-clause-decided
returns-clause-decided c = record {
  literal = c.new.result;
  unset = rw (← c.self.view_is) (unset_other c.self.inside.trail.entries (pos c.in_ok-var.var) c.new.result (sym c.new.ensures.var) c.in_ok-var.ensures.some.unset);
  is_decided = rw (← c.self.view_is) c.decide.ensures;
}
