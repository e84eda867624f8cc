use Rattle.lls_cli.specs.Ends.{lacked}
use Rattle.lls_cli.proofs.Ending.{lacks}
use Rattle.lls_cli.proofs.extremal.give_extremal.Goals as goal

pub returns-in-Err-clause-end : goal.returns-in-Err-clause-end
returns-in-Err-clause-end g c = (lacked, lacks _ _ _ _ _ (g.met.S.Shelf.faults_fit c.args.outside.now.shelf.now) c.lack.ensures.status c.lack.ensures.line)
