use Rattle.lls_cli.proofs.Ending.{read_answered, read_stopped}
use Rattle.lls_cli.proofs.run.give_read.Goals as goal

pub returns-in-Ok-clause-end : goal.returns-in-Ok-clause-end
returns-in-Ok-clause-end g c =
    λ task before inputs read.
    read_answered task c.in-Ok.answer before _ _ _ _ _ _ _ inputs (rw c.in-Ok.is at read)
    (λ question right. c.give.ensures.end question right)

pub returns-in-Err-clause-end : goal.returns-in-Err-clause-end
returns-in-Err-clause-end g c =
    λ task before inputs read. read_stopped task c.in-Err.fault before _ _ _ _ _ inputs (rw c.in-Err.is at read) c.refuse.ensures
