use Rattle.std.proofs.Common.{◌*◌, ◌^◌, ◌≤◌, ◌∙◌, sym, ap, length, arith}
use Rattle.std.proofs.Math.Nat.{pow-le-pow_right}
use Rattle.lls_cube.proofs.Bits.{length-table_in}
use Rattle.lls_cube.proofs.table.Table.row_count.Goals as goal

pub returns-clause-rows : goal.returns-clause-rows
returns-clause-rows g c =
    ap (λ n. 64 * n) (sym c.self.invariant.words_are) ∙ sym (length-table_in c.self.inside.words) ∙ ap length c.self.view_is

pub returns-clause-most : goal.returns-clause-most
returns-clause-most g c =
    let most : 2 ^ g.row.K ≤ 2 ^ 11 = pow-le-pow_right (omega arith) c.self.invariant.most in
    omega (arith, c.self.invariant.rows_are, most)
