use Rattle.std.proofs.Common.{◌≡◌}
use Rattle.std.specs.Prelude.{count_by}
use Rattle.lls_solver.specs.Course.{AreWaiting}
use Rattle.lls_solver.proofs.course.next_without_value.Given as goal

abbrev pub invariant-loop-var : goal.invariant-loop-var
invariant-loop-var l = record {
  vars : l.order.order.vars ≡ l.initial.order.order.vars;
  waiting : AreWaiting l.trail.entries l.order.order;
}

abbrev pub decreases-loop-var : goal.decreases-loop-var
decreases-loop-var l = count_by (λ b. b) l.order.order.inside
