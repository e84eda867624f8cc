use Rattle.std.proofs.Common.{subst}
use Rattle.std.specs.Prelude.{OnOk}
use Rattle.lls_trim.specs.Needed.{NeedsNoRat}
use Rattle.lls_trim.specs.Recorded.{RecordedState}
use Rattle.lls_trim.proofs.recorded.Recorded.trim.Goals as goal

pub returns-clause-by_propagation : goal.returns-clause-by_propagation
returns-clause-by_propagation c =
    subst (λ (r : RecordedState). OnOk c.trim_inferences.result (NeedsNoRat r.inferences)) c.self.view_is c.trim_inferences.ensures.by_propagation
