use Rattle.std.proofs.Common.{◌≢◌, ℕ, ◌<◌, Some, get_or}
use Rattle.lls_store.specs.Trail.{Entry}
use Rattle.lls_engine_tests.proofs.store_removal.is_no_reason.Given as goal

abbrev pub invariant-loop-k : goal.invariant-loop-k
invariant-loop-k l = (j : ℕ) (d : Entry) → j < l.k → (get_or l.trail.entries j d).reason ≢ Some l.c
