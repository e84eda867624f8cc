use Rattle.std.specs.Fmt.{decimal}
use Rattle.lls_prooflog.specs.Lent.{ids_of}
use Rattle.lls_prooflog.proofs.PrintedLogs.{number_next}
use Rattle.lls_prooflog.proofs.print.push_ids.Goals as goal

pub loop-k-preserved : goal.loop-k-preserved
loop-k-preserved c =
    rw (c.in_ok-extend_from_slice-2.ensures.items, c.in_ok-extend_from_slice.ensures.items, c.as_bytes.ensures.value, c.format.ensures.text, c.loop-k.invariant)
    (number_next decimal c.args.text.now.items (ids_of c.args.ids) c.loop-k.k c.get.result c.get.ensures)
