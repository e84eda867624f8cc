use Rattle.std.proofs.Common.{◌∙◌, ap, set, true, arith}
use Rattle.lls_cube.proofs.Bits.{table_in-set}
use Rattle.lls_cube.proofs.table.Table.forbid.Goals as goal

pub returns : goal.returns
returns g c =
    table_in-set c.self.inside.words c.args.row (omega (arith, c.self.invariant.words_are, c.self.invariant.rows_are, c.requires))
    ∙ ap (λ table. set table c.args.row true) c.self.view_is
