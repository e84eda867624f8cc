use Rattle.std.proofs.Common.{◌≡◌}
use Rattle.lls_store.specs.Sound.{IsSound}
use Rattle.lls_store.specs.Scan.{store_of}
use Rattle.lls_store.specs.Worked.{IsAtRest}
use Rattle.lls_engine_tests.proofs.store_changes.a_store_and_its_trail_change_as_worked.Given as goal

abbrev pub invariant-loop-row : goal.invariant-loop-row
invariant-loop-row g l = (l.trail.vars ≡ 5) × (l.store.vars ≡ 5) × IsSound (store_of l.store).live l.trail × IsAtRest (store_of l.store)
