use Rattle.std.specs.Fmt.{signed_decimal}
use Rattle.lls_prooflog.specs.Lent.{hints_of}
use Rattle.lls_prooflog.proofs.PrintedLogs.{number_next}
use Rattle.lls_prooflog.proofs.PrintedNumbers.{same_number}
use Rattle.lls_prooflog.proofs.print.push_hints.Goals as goal

pub loop-k-preserved : goal.loop-k-preserved
loop-k-preserved c =
    rw (c.in_ok-extend_from_slice-2.ensures.items, c.in_ok-extend_from_slice.ensures.items, c.as_bytes.ensures.value, c.format.ensures.text, same_number c.get.result c.get.type_inv, c.loop-k.invariant)
    (number_next signed_decimal c.args.text.now.items (hints_of c.args.hints) c.loop-k.k c.get.result c.get.ensures)
