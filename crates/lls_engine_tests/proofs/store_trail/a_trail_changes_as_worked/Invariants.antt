use Rattle.std.proofs.Common.{◌≡◌}
use Rattle.lls_engine_tests.proofs.store_trail.a_trail_changes_as_worked.Given as goal

abbrev pub invariant-loop-row : goal.invariant-loop-row
invariant-loop-row g l = l.trail.vars ≡ 5
