use Rattle.std.proofs.Common.{arith}
use Rattle.lls_cnf.proofs.Cut.{bounds, slice_get-pieces}
use Rattle.lls_lrat.proofs.buffer.piece.Goals as goal

pub cut-requires : goal.cut-requires
cut-requires c =
    let b = bounds 0 c.args.ends.now _ c.args.place c.requires.ends c.requires.place in
    record { start = omega (arith, b.0, c.start.ensures); end = b.1 }

pub returns : goal.returns
returns c =
    rw (c.cut.ensures, c.start.ensures) (slice_get-pieces 0 c.args.ends.now c.args.buffer.now c.args.place c.requires.place)
