use Rattle.std.proofs.Common.{◌≡◌}
use Rattle.lls_solver.proofs.course.Course.bump_reasons.Given as goal

abbrev pub invariant-loop-lit : goal.invariant-loop-lit
invariant-loop-lit g l = l.self ≡ l.initial.self
