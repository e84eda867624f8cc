use Rattle.std.proofs.Common.{◌≡◌, length, ap, arith}
use Rattle.lls_cnf.specs.Pieces.{pieces}
use Rattle.lls_cnf.proofs.Cut.{length-pieces}
use Rattle.lls_lrat.proofs.buffer.Buffer.empty_dead.Goals as goal

pub close_up-requires-clause-same_many : goal.close_up-requires-clause-same_many
close_up-requires-clause-same_many c =
    let b = c.self.inside in
    let same : length (pieces 0 b.ends.items b.lits.items) ≡ length c.args.self.now = ap length c.self.view_is in
    omega (arith, same, c.requires, length-pieces 0 b.ends.items b.lits.items)
