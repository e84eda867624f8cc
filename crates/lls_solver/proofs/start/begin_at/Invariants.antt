use Rattle.std.proofs.Common.{◌≡◌}
use Rattle.lls_solver.proofs.start.begin_at.Given as goal

abbrev pub invariant-loop-n : goal.invariant-loop-n
invariant-loop-n l = record {
  vars : l.order.order.vars ≡ l.initial.order.order.vars;
  inside : l.order.order.inside ≡ l.initial.order.order.inside;
}
