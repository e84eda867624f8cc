use Rattle.std.proofs.Common.{arith}
use Rattle.lls_trim.proofs.Marks.{no_rat}
use Rattle.lls_trim.proofs.marking.first_rat.Goals as goal

pub returns-clause-none : goal.returns-clause-none
returns-clause-none c = λ _. no_rat c.args.inferences.now c.loop-k.k c.loop-k.invariant (omega (arith, c.loop-k-test.false, c.requires.as_many))
