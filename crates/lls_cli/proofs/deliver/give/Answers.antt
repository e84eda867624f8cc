use Rattle.lls_cli.specs.Ends.{lacked}
use Rattle.lls_cli.proofs.Ending.{delivered, lacks}
use Rattle.lls_cli.proofs.deliver.give.Goals as goal

pub returns-in-Ok-clause-end : goal.returns-in-Ok-clause-end
returns-in-Ok-clause-end g c =
    λ question right. delivered question c.in-Ok.answer _ _ _ (rw c.in-Ok.is at right) c.deliver.ensures.end

pub returns-in-Ok-clause-in_hand : goal.returns-in-Ok-clause-in_hand
returns-in-Ok-clause-in_hand g c = rw c.in-Ok.is c.deliver.ensures.end

pub returns-in-Err-clause-end : goal.returns-in-Err-clause-end
returns-in-Err-clause-end g c =
    λ question right. (lacked, lacks _ _ _ _ _ (g.met.S.Shelf.faults_fit c.args.outside.now.shelf.now) c.lack.ensures.status c.lack.ensures.line)
