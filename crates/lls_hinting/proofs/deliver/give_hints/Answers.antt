use Rattle.std.proofs.Common.{Err, ap}
use Rattle.lls_hinting.proofs.Outputs.{keeps_but}
use Rattle.lls_hinting.proofs.deliver.give_hints.Goals as goal

pub returns-in-Err-clause-others : goal.returns-in-Err-clause-others
returns-in-Err-clause-others g c =
    let ended = c.in-Err.ensures in
    let bytes = c.deref.ensures.value in
    keeps_but c.in-Err.fault c.args.output.now c.args.hints.now.bytes.items _ _ (λ is. ended.create_failed (ap Err is)) (λ is. rw bytes at (ended.write_failed (ap Err is)))
