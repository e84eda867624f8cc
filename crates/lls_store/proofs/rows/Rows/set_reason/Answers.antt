use Rattle.std.proofs.Common.{◌∙◌, ap, set}
use Rattle.lls_store.specs.Columns.{Columns}
use Rattle.lls_store.proofs.Columned.{columns_of-reason}
use Rattle.lls_store.proofs.rows.Rows.set_reason.Goals as goal

pub returns : goal.returns
returns c =
    columns_of-reason c.self.inside.rows.items c.args.i c.index_mut.result.now c.args.reason c.index_mut.ensures.value
    ∙ ap (λ (t : Columns). record { levels = t.levels; places = t.places; reasons = set t.reasons c.args.i c.args.reason }) c.self.view_is
