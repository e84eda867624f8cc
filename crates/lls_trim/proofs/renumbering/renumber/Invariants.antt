use Rattle.lls_trim.proofs.Renumbered.{IsRenumbering}
use Rattle.lls_trim.proofs.renumbering.renumber.Given as goal

abbrev pub invariant-loop-k : goal.invariant-loop-k
invariant-loop-k l = IsRenumbering l.given l.marks l.inferences l.k l.ids.items l.next l.log.steps
