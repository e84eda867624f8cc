use Rattle.std.proofs.Common.{sym, ◌∙◌, arith}
use Rattle.lls_text.proofs.ShortDigits.{short_fits, short_next}
use Rattle.lls_text.proofs.digits.short_number.Goals as goal

pub overflow_mul-number : goal.overflow_mul-number
overflow_mul-number c =
    omega (arith, short_fits c.args.text.now c.loop-byte.byte-index c.loop-byte.number c.loop-byte-test.true c.requires c.loop-byte.invariant (sym c.is_ascii_digit.ensures.value ∙ c.if-not-is_ascii_digit.false))

pub overflow_add-number : goal.overflow_add-number
overflow_add-number c =
    omega (arith, c.from.ensures, short_fits c.args.text.now c.loop-byte.byte-index c.loop-byte.number c.loop-byte-test.true c.requires c.loop-byte.invariant (sym c.is_ascii_digit.ensures.value ∙ c.if-not-is_ascii_digit.false))

pub loop-byte-preserved : goal.loop-byte-preserved
loop-byte-preserved c = rw c.from.ensures
    (short_next c.args.text.now c.loop-byte.byte-index c.loop-byte.number c.loop-byte-test.true c.loop-byte.invariant (sym c.is_ascii_digit.ensures.value ∙ c.if-not-is_ascii_digit.false))
