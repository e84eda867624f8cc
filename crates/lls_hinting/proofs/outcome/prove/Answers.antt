use Rattle.lls_base.specs.Shelf.{known_files}
use Rattle.lls_hinting.specs.Judging.{IsProved}
use Rattle.lls_hinting.proofs.Judged.{proved_fewer}
use Rattle.lls_hinting.proofs.Stopping.{reads_along}
use Rattle.lls_hinting.proofs.outcome.prove.Goals as goal

pub returns : goal.returns
returns g c =
    let files = known_files (g.S.Shelf.told c.args.shelf.now) in
    let vars = c.greater-vars.result in
    reads_along (IsProved c.args.formula.now vars files c.args.name.now c.args.form) (IsProved c.args.formula.now c.args.greatest files c.args.name.now c.args.form) c.judged.result _ _
    (proved_fewer c.args.formula.now c.args.greatest vars files c.args.name.now c.args.form c.judged.result c.greater-vars.ensures.other) c.judged.ensures
