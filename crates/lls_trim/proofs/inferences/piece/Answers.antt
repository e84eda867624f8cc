use Rattle.std.proofs.Common.{length}
use Rattle.lls_trim.specs.Buffers.{none_yet}
use Rattle.lls_trim.proofs.Buffers.{entry_at, slice_get-inferences_in}
use Rattle.lls_trim.proofs.inferences.piece.Goals as goal

pub cut-requires : goal.cut-requires
cut-requires c = rw c.start.ensures (entry_at none_yet c.args.entries.now (length c.args.lits.now) (length c.args.sources.now) c.args.k _ c.requires.ends c.requires.place)

pub returns : goal.returns
returns c = rw (c.cut.ensures, c.start.ensures) (slice_get-inferences_in c.args.lits.now c.args.sources.now none_yet c.args.entries.now c.args.k _ c.requires.place)
