use Rattle.std.proofs.Common.{◌-◌, length}
use Rattle.lls_store.proofs.Passes.{IsPassed}
use Rattle.lls_store.proofs.scan_store.propagate.Given as goal

abbrev pub invariant-loop-trail : goal.invariant-loop-trail
invariant-loop-trail l = IsPassed l.clauses.clauses l.initial.trail 0 l.trail

abbrev pub decreases-loop-trail : goal.decreases-loop-trail
decreases-loop-trail l = l.trail.vars - length l.trail.entries
