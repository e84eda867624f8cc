use Rattle.std.proofs.Common.{◌∙◌, ap, set}
use Rattle.lls_store.specs.Columns.{Columns}
use Rattle.lls_store.proofs.Columned.{columns_of-set}
use Rattle.lls_store.proofs.rows.Rows.write.Goals as goal

pub returns : goal.returns
returns c =
    columns_of-set c.self.inside.rows.items c.args.i c.args.row
    ∙ ap (λ (t : Columns). record { levels = set t.levels c.args.i c.args.row.level; places = set t.places c.args.i c.args.row.place; reasons = set t.reasons c.args.i c.args.row.reason }) c.self.view_is
