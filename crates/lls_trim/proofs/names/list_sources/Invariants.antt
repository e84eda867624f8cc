use Rattle.std.proofs.Common.{◌≡◌, take}
use Rattle.lls_prooflog.specs.Lent.{hints_of}
use Rattle.lls_trim.specs.Inferences.{sources_of}
use Rattle.lls_trim.specs.Buffers.{names_in}
use Rattle.lls_trim.proofs.names.list_sources.Given as goal

abbrev pub invariant-loop-k : goal.invariant-loop-k
invariant-loop-k l = l.sources.items ≡ sources_of (names_in l.names) (take l.k (hints_of l.hints))
