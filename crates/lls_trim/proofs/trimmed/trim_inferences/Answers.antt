use Rattle.std.proofs.Common.{refl}
use Rattle.lls_trim.proofs.trimmed.trim_inferences.Goals as goal

pub returns-clause-by_propagation : goal.returns-clause-by_propagation
returns-clause-by_propagation c = c.in-None.ensures.none refl
