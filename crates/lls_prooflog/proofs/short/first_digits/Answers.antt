use Rattle.std.proofs.Common.{◌<◌, length, get_or, sym, ◌∙◌, arith}
use Rattle.lls_prooflog.proofs.ShortNumbers.{digit_fits, digit_more, digit_small, most_small}
use Rattle.lls_prooflog.proofs.short.first_digits.Goals as goal

pub overflow_mul-size : goal.overflow_mul-size
overflow_mul-size c =
    omega (arith, digit_fits c.loop-count.count c.loop-count.size (get_or c.args.text.now c.loop-count.count 0) (omega arith) c.loop-count.invariant.small (sym c.is_ascii_digit.ensures.value ∙ c.if-is_ascii_digit.true))

pub overflow_add-size : goal.overflow_add-size
overflow_add-size c =
    omega (arith, c.from.ensures, digit_fits c.loop-count.count c.loop-count.size (get_or c.args.text.now c.loop-count.count 0) (omega arith) c.loop-count.invariant.small (sym c.is_ascii_digit.ensures.value ∙ c.if-is_ascii_digit.true))

pub loop-count-preserved : goal.loop-count-preserved
loop-count-preserved c =
    let within : c.loop-count.count < length c.args.text.now = omega arith in
    let is = sym c.is_ascii_digit.ensures.value ∙ c.if-is_ascii_digit.true in
    record {
      are_digits = rw c.from.ensures (digit_more c.args.text.now c.loop-count.count c.loop-count.size within c.loop-count.invariant.are_digits is);
      below = omega arith;
      small = rw c.from.ensures (digit_small c.loop-count.count c.loop-count.size (get_or c.args.text.now c.loop-count.count 0) c.loop-count.invariant.small is);
    }

pub returns-else-is_ascii_digit-clause-small : goal.returns-else-is_ascii_digit-clause-small
returns-else-is_ascii_digit-clause-small c = most_small c.loop-count.count c.loop-count.size (omega arith) c.loop-count.invariant.small

pub returns-after-loop-count-clause-small : goal.returns-after-loop-count-clause-small
returns-after-loop-count-clause-small c = most_small c.loop-count.count c.loop-count.size (omega arith) c.loop-count.invariant.small
