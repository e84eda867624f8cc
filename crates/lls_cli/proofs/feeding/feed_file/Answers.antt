use Rattle.std.proofs.lemmas.Result.{err_from_is_err_and}
use Rattle.lls_outside.specs.Moment.{shelf_at}
use Rattle.lls_cli.proofs.FedProofs.{not_fed}
use Rattle.lls_cli.proofs.feeding.feed_file.Goals as goal

pub returns-in_err-feed_rest : goal.returns-in_err-feed_rest
returns-in_err-feed_rest g c =
    let p = err_from_is_err_and c.from_residual-in_err-feed_rest.result c.from_residual-in_err-feed_rest.ensures.1 in
    rw (p.1, p.2)
    (not_fed (shelf_at g.S.Shelf c.args.shelf.now) (shelf_at g.S.Shelf c.open_input.new.self) (shelf_at g.S.Shelf c.feed_rest.new.shelf) c.args.name.now c.args.formula.now _ _
    (rw c.text.ensures at c.in-Ok.ensures.told) (rw c.text.ensures at c.in-Ok.ensures.absent) c.in-Ok.ensures.output c.in-Ok.ensures.no_fault c.in_err-feed_rest.ensures.fed)
