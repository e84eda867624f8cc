use Rattle.std.proofs.Common.{◌≤◌, ◌+◌, ◌*◌, get_or, arith}
use Rattle.std.specs.Int.{IsInRange}
use Rattle.std.proofs.lemmas.Grind.{common_steps}
use Rattle.lls_cnf.proofs.Digits.{below_most, below_next, digits_value-next}
use Rattle.lls_cnf.proofs.number.natural_number.Goals as goal

pub overflow_mul-value : goal.overflow_mul-value
overflow_mul-value c =
    let next = below_next c.loop-byte.value c.loop-byte.byte-index c.loop-byte.invariant.below in
    omega (arith, below_most (10 * c.loop-byte.value + 9) (c.loop-byte.byte-index + 1) next (omega arith))

pub overflow_add-value : goal.overflow_add-value
overflow_add-value c =
    let digit : get_or c.args.word.now c.loop-byte.byte-index 0 ≤ 57 = grind (arith, common_steps, c.if-not-is_ascii_digit.ensures.cases, c.if-not-is_ascii_digit.ensures.bound) in
    let next = below_next c.loop-byte.value c.loop-byte.byte-index c.loop-byte.invariant.below in
    omega (arith, digit, c.from.ensures, below_most (10 * c.loop-byte.value + 9) (c.loop-byte.byte-index + 1) next (omega arith))

pub loop-byte-preserved : goal.loop-byte-preserved
loop-byte-preserved c =
    let b = get_or c.args.word.now c.loop-byte.byte-index 0 in
    let range : IsInRange 48 57 b = grind (arith, common_steps, c.if-not-is_ascii_digit.ensures.cases, c.if-not-is_ascii_digit.ensures.bound) in
    record {
      digits = grind (arith, common_steps);
      value = rw c.from.ensures (digits_value-next c.args.word.now c.loop-byte.byte-index c.loop-byte.value c.loop-byte-test.true range c.loop-byte.invariant.value);
      below = omega (arith, range, c.from.ensures, below_next c.loop-byte.value c.loop-byte.byte-index c.loop-byte.invariant.below);
    }

pub returns-clause-below : goal.returns-clause-below
returns-clause-below c = below_most c.loop-byte.value c.loop-byte.byte-index c.loop-byte.invariant.below (omega arith)
