use Rattle.std.proofs.Common.{◌∙◌, ap, false, replicate}
use Rattle.lls_cube.proofs.Bits.{table_in-replicate}
use Rattle.lls_cube.proofs.table.Table.empty.Goals as goal

pub returns : goal.returns
returns g c = table_in-replicate g.row.W ∙ ap (λ n. replicate n false) c.requires.rows
