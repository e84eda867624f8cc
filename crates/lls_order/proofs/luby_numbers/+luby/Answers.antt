use Rattle.std.proofs.Common.{◌≡◌, ◌+◌, ◌-◌, ◌*◌, ◌^◌, ◌%◌, ◌∙◌, sym, subst, ℕ, arith}
use Rattle.lls_order.specs.Luby.{IsLuby, half, again}
use Rattle.lls_order.proofs.LubyNumbers.{at_half, between, shifted}
use Rattle.lls_order.proofs.luby_numbers.+luby.Goals as goal

pub returns-then-n-power-clause-is_luby : goal.returns-then-n-power-clause-is_luby
returns-then-n-power-clause-is_luby t c =
    let k = c.ilog2.result in
    let power : 1 * 2 ^ k % 18446744073709551616 ≡ 2 ^ k = shifted c.args.n k c.ilog2.ensures.power_le (omega arith) in
    rw power (half {n = c.args.n} k (omega (arith, power, c.if-n-power.true, c.requires.least)))

pub returns-then-n-power-clause-alone : goal.returns-then-n-power-clause-alone
returns-then-n-power-clause-alone t c = λ m h.
    let k = c.ilog2.result in
    let power : 1 * 2 ^ k % 18446744073709551616 ≡ 2 ^ k = shifted c.args.n k c.ilog2.ensures.power_le (omega arith) in
    at_half c.args.n k m (omega (arith, power, c.if-n-power.true, c.requires.least)) h ∙ sym power

pub returns-else-n-power-clause-is_luby : goal.returns-else-n-power-clause-is_luby
returns-else-n-power-clause-is_luby t c =
    let k = c.ilog2.result in
    let power : 1 * 2 ^ k % 18446744073709551616 ≡ 2 ^ k = shifted c.args.n k c.ilog2.ensures.power_le (omega arith) in
    let P : ℕ → Type 0 = λ p. IsLuby (c.args.n - p + 1) c.luby.result in
    again {n = c.args.n} {m = c.luby.result} k c.ilog2.ensures.power_le (omega (arith, power, c.if-n-power.false, c.ilog2.ensures.next_power_gt)) (subst P power c.luby.ensures.is_luby)

pub returns-else-n-power-clause-alone : goal.returns-else-n-power-clause-alone
returns-else-n-power-clause-alone t c = λ m h.
    let k = c.ilog2.result in
    let power : 1 * 2 ^ k % 18446744073709551616 ≡ 2 ^ k = shifted c.args.n k c.ilog2.ensures.power_le (omega arith) in
    let P : ℕ → Type 0 = λ p. IsLuby (c.args.n - p + 1) m in
    c.luby.ensures.alone m (subst P (sym power) (between c.args.n k m c.ilog2.ensures.power_le (omega (arith, power, c.if-n-power.false, c.ilog2.ensures.next_power_gt)) h))
