use Rattle.std.proofs.Common.{List, length, ap, arith}
use Rattle.lls_trim.specs.Inferences.{Inference}
use Rattle.lls_trim.specs.Buffers.{none_yet}
use Rattle.lls_trim.proofs.Buffers.{length-inferences_in}
use Rattle.lls_trim.proofs.inferences.Inferences.lend.Goals as goal

pub piece-requires-clause-place : goal.piece-requires-clause-place
piece-requires-clause-place c =
    let m = c.self.inside in
    rw c.deref.ensures.value (omega (arith, c.requires, ap (λ (is : List Inference). length is) c.self.view_is, length-inferences_in m.lits.items m.sources.items none_yet m.entries.items))
