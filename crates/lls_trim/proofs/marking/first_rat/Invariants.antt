use Rattle.lls_trim.proofs.Marks.{NoRatBelow}
use Rattle.lls_trim.proofs.marking.first_rat.Given as goal

abbrev pub invariant-loop-k : goal.invariant-loop-k
invariant-loop-k l = NoRatBelow l.inferences l.k
