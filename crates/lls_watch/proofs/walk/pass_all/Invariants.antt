-- All is kept, and each turn passes one literal more.
use Rattle.std.proofs.Common.{◌-◌, ◌≤◌, length}
use Rattle.lls_store.specs.Store.{GoesOn}
use Rattle.lls_watch.specs.Propagating.{ArePropagating, LookAlike}
use Rattle.lls_watch.proofs.walk.pass_all.Given as goal

abbrev pub invariant-loop-progress : goal.invariant-loop-progress
invariant-loop-progress l =
    ArePropagating l.watches l.trail l.progress × GoesOn l.fn.trail l.trail × LookAlike l.fn.watches l.watches × (l.progress.passed ≤ length l.trail.entries)

abbrev pub decreases-loop-progress : goal.decreases-loop-progress
decreases-loop-progress l = l.trail.vars - l.progress.passed
