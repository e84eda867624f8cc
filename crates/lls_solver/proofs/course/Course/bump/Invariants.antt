use Rattle.std.proofs.Common.{◌≡◌, length}
use Rattle.lls_solver.proofs.course.Course.bump.Given as goal

abbrev pub invariant-loop-lit : goal.invariant-loop-lit
invariant-loop-lit l = record {
  trail : l.self-inside.trail ≡ l.initial.self-inside.trail;
  inside : l.self-inside.order.order.inside ≡ l.initial.self-inside.order.order.inside;
  vars : l.self-inside.order.order.vars ≡ l.initial.self-inside.order.order.vars;
  phases : l.self-inside.phases ≡ l.initial.self-inside.phases;
  bumped : length l.self-inside.bumped.items ≡ length l.initial.self-inside.bumped.items;
}
