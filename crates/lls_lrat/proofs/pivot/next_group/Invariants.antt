use Rattle.lls_prooflog.specs.Lent.{hints_of}
use Rattle.lls_lrat.proofs.Walked.{Passed}
use Rattle.lls_lrat.proofs.pivot.next_group.Given as goal

abbrev pub invariant-loop-k : goal.invariant-loop-k
invariant-loop-k l = Passed (hints_of l.hints) l.from l.k
