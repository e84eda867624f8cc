use Rattle.std.proofs.Common.{◌≡◌, ◌≤◌, length}
use Rattle.lls_solver.specs.Course.{AreWaiting}
use Rattle.lls_solver.specs.Released.{AreReleased}
use Rattle.lls_solver.proofs.Levels.{IsAbove}
use Rattle.lls_solver.proofs.course.release.Given as goal

abbrev pub invariant-loop-k : goal.invariant-loop-k
invariant-loop-k l = record {
  vars : l.order.order.vars ≡ l.initial.order.order.vars;
  phases : l.phases ≡ l.initial.phases;
  within : l.k ≤ length l.trail.entries;
  waiting : AreWaiting l.trail.entries l.order.order;
  above : IsAbove l.trail l.level l.k;
  released : AreReleased l.trail.entries l.order.order l.k;
}

abbrev pub decreases-loop-k : goal.decreases-loop-k
decreases-loop-k l = l.k
