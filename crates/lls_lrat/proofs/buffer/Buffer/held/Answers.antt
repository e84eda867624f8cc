use Rattle.std.proofs.Common.{arith}
use Rattle.lls_lrat.proofs.Emptied.{buffer_length}
use Rattle.lls_lrat.proofs.buffer.Buffer.held.Goals as goal

pub returns : goal.returns
returns c =
    let b = c.self.inside in
    rw (← c.self.view_is) (omega (arith, b.lits.ok.0, buffer_length b.ends.items b.lits.items c.self.invariant))
