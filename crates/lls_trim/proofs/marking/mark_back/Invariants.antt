use Rattle.lls_trim.proofs.Marks.{IsMarking}
use Rattle.lls_trim.proofs.marking.mark_back.Given as goal

abbrev pub invariant-back : goal.invariant-back
invariant-back l = IsMarking l.inferences l.marks l.k

abbrev pub decreases-back : goal.decreases-back
decreases-back l = l.k
