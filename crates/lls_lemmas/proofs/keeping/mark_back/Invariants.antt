use Rattle.lls_lemmas.proofs.RestMarks.{IsMarking}
use Rattle.lls_lemmas.proofs.keeping.mark_back.Given as goal

abbrev pub invariant-loop-k : goal.invariant-loop-k
invariant-loop-k l = IsMarking l.log.steps l.marks l.k

abbrev pub decreases-loop-k : goal.decreases-loop-k
decreases-loop-k l = l.k
