use Rattle.std.proofs.Common.{arith, refl}
use Rattle.std.proofs.lemmas.Grind.{common_steps}
use Rattle.lls_watch.proofs.Lists.{sealed_kept}
use Rattle.lls_watch.proofs.watches.Watches.seal.Goals as goal

pub returns-clause-state : goal.returns-clause-state
returns-clause-state c = grind (arith, common_steps)

pub returns-clause-threaded : goal.returns-clause-threaded
returns-clause-threaded c = λ lists threaded. rw (returns-clause-state c) (sealed_kept c.args.self.now lists _ threaded _ refl)
