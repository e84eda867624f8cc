use Rattle.std.proofs.Common.{ap}
use Rattle.lls_cli.specs.Task.{tasked}
use Rattle.lls_cli.proofs.Ending.{words_ended}
use Rattle.lls_cli.proofs.run.run_line.Goals as goal

pub returns-in-Err-clause-end : goal.returns-in-Err-clause-end
returns-in-Err-clause-end g c =
    words_ended c.in-Err.error _ _ _ _ _ _ (g.met.S.Shelf.faults_fit c.args.outside.now.shelf.now) (λ other. ap tasked (c.in-Err.ensures.job other)) (rw c.from.ensures at c.refuse.ensures)
