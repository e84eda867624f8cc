use Rattle.lls_solver.proofs.Forgotten.{late_exactly}
use Rattle.lls_solver.proofs.deletion.is_late.Goals as goal

pub returns : goal.returns
returns c = λ formula learnt.
    late_exactly formula c.args.log.now.steps c.args.learnt c.len.result c.additions.result learnt c.len.ensures c.additions.ensures c.if-learnt-lt-LEAST_LEARNT.false
