use Rattle.std.proofs.Common.{arith}
use Rattle.lls_trim.specs.Buffers.{none_yet}
use Rattle.lls_trim.proofs.Buffers.{length-inferences_in}
use Rattle.lls_trim.proofs.inferences.Inferences.len.Goals as goal

pub returns-clause-len : goal.returns-clause-len
returns-clause-len c =
    let m = c.self.inside in
    rw (← c.self.view_is) (omega (arith, m.entries.ok.0, length-inferences_in m.lits.items m.sources.items none_yet m.entries.items))
