use Rattle.std.proofs.Common.{◌≡◌}
use Rattle.lls_store.specs.Scan.{live_in}
use Rattle.lls_store.proofs.Renaming.{renamed_front}
use Rattle.lls_store.proofs.scan_store.rename_reasons.Given as goal

abbrev pub invariant-loop-k : goal.invariant-loop-k
invariant-loop-k l = l.trail ≡ renamed_front (live_in l.clauses.clauses) l.initial.trail l.k
