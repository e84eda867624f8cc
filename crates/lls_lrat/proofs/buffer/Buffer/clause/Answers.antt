use Rattle.std.proofs.Common.{◌≡◌, length, ap, arith}
use Rattle.lls_cnf.specs.Pieces.{pieces}
use Rattle.lls_cnf.proofs.Cut.{length-pieces}
use Rattle.lls_lrat.proofs.buffer.Buffer.clause.Goals as goal

pub piece-requires-clause-place : goal.piece-requires-clause-place
piece-requires-clause-place c =
    let f = c.self.inside in
    let same : length (pieces 0 f.ends.items f.lits.items) ≡ length c.args.self.now = ap length c.self.view_is in
    rw c.deref-2.ensures.value (omega (arith, same, c.requires, length-pieces 0 f.ends.items f.lits.items))
