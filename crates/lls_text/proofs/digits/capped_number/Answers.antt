use Rattle.lls_text.proofs.CappedDigits.{capped_digits}
use Rattle.lls_text.proofs.digits.capped_number.Goals as goal

pub loop-byte-preserved : goal.loop-byte-preserved
loop-byte-preserved c =
    rw (c.saturating_add-number.ensures, c.saturating_mul.ensures, c.from.ensures)
    (capped_digits c.args.digits.now c.loop-byte.byte-index c.loop-byte.number c.loop-byte-test.true c.requires c.loop-byte.invariant)
