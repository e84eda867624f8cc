use Rattle.lls_store.proofs.Passes.{IsPassed}
use Rattle.lls_store.proofs.scan_store.pass.Given as goal

abbrev pub invariant-loop-k : goal.invariant-loop-k
invariant-loop-k l = IsPassed l.clauses.clauses l.initial.trail l.k l.trail
