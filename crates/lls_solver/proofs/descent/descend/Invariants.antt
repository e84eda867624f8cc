use Rattle.std.proofs.Common.{◌≡◌, ◌-◌, length}
use Rattle.lls_solver.specs.Course.{IsOnCourse}
use Rattle.lls_solver.proofs.descent.descend.Given as goal

abbrev pub invariant-loop-c : goal.invariant-loop-c
invariant-loop-c g l = record {
  state : g.S.Store.state l.store ≡ g.S.Store.state l.initial.store;
  tracked : g.S.Store.tracks l.store l.course;
  on_course : IsOnCourse (g.S.Store.state l.initial.store) l.course;
}

abbrev pub decreases-loop-c : goal.decreases-loop-c
decreases-loop-c g l = l.course.vars - length l.course.entries
