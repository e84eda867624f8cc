use Rattle.std.proofs.Common.{◌≡◌, arith}
use Rattle.std.specs.Str.Parse.{digits_value}
use Rattle.lls_rle.proofs.Counts.{small_value, counted}
use Rattle.lls_rle.proofs.parts.count_part.Goals as goal

pub overflow_cast-result : goal.overflow_cast-result
overflow_cast-result c = omega (arith, small_value c.args.digits.now c.requires.digits c.if-digits-gt-MOST_DIGITS.false, c.requires.number)

pub returns-else-number-eq0 : goal.returns-else-number-eq0
returns-else-number-eq0 c =
    let is : c.args.number ≡ digits_value 10 c.args.digits.now = omega (arith, small_value c.args.digits.now c.requires.digits c.if-digits-gt-MOST_DIGITS.false, c.requires.number) in
    counted c.args.digits.now c.args.number is c.if-digits-gt-MOST_DIGITS.false (λ zero. omega (arith, zero, c.if-number-eq0.false))
