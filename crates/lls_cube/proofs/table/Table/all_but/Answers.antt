use Rattle.std.proofs.Common.{◌≡◌, ℕ, ◌<◌, ◌-◌, ◌*◌, ◌%◌, ◌^◌, ◌∙◌, ap, ap₂, one-mul, mod-eq_of_lt, arith}
use Rattle.std.proofs.Math.Pow.{pow-lt}
use Rattle.lls_cube.proofs.Covered.{weight-lt}
use Rattle.lls_cube.proofs.table.Table.all_but.Goals as goal

pub overflow_shl-result : goal.overflow_shl-result
overflow_shl-result g c = omega (arith, c.self.invariant.most)

weight : (k i : ℕ) → i < k → k < 12 → 1 * 2 ^ (k - 1 - i) % 2 ^ 64 ≡ 2 ^ (k - 1 - i)
weight k i within most =
    ap (λ n. n % 2 ^ 64) (one-mul (2 ^ (k - 1 - i))) ∙ mod-eq_of_lt (pow-lt {i = k - 1 - i} {j = 64} (omega (arith, most)))

pub overflow_sub-result-4 : goal.overflow_sub-result-4
overflow_sub-result-4 g c = omega (arith, weight g.row.K c.args.input c.requires (omega (arith, c.self.invariant.most)), weight-lt g.row.K c.args.input c.requires, c.row_count.ensures.inputs)

pub returns : goal.returns
returns g c = ap₂ (λ rows bit. rows - 1 - bit) c.row_count.ensures.inputs (weight g.row.K c.args.input c.requires (omega (arith, c.self.invariant.most)))
