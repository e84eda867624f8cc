use Rattle.std.proofs.lemmas.Result.{err_from_is_err_and}
use Rattle.lls_outside.specs.Moment.{shelf_at}
use Rattle.lls_hinting.proofs.Requests.{surveyed_then, survey_refused}
use Rattle.lls_hinting.proofs.outcome.outcome_of.Goals as goal

pub returns-in_err-greatest : goal.returns-in_err-greatest
returns-in_err-greatest g c =
    let p = err_from_is_err_and c.from_residual-in_err-greatest.result c.from_residual-in_err-greatest.ensures.1 in
    rw (p.1, p.2)
    (survey_refused c.args.request.now c.in_ok-formula.formula c.in_ok-form.form _ (shelf_at g.S.Shelf c.args.shelf.now) (shelf_at g.S.Shelf c.read_formula.new.shelf)
    (shelf_at g.S.Shelf c.form_of.new.shelf) (shelf_at g.S.Shelf c.greatest_of.new.shelf) c.in_ok-formula.ensures.read c.in_ok-form.ensures.read c.in_err-greatest.ensures.read)

pub returns : goal.returns
returns g c =
    surveyed_then c.args.request.now c.in_ok-formula.formula c.in_ok-form.form c.in_ok-greatest.greatest c.prove.result (shelf_at g.S.Shelf c.args.shelf.now) (shelf_at g.S.Shelf c.read_formula.new.shelf)
    (shelf_at g.S.Shelf c.form_of.new.shelf) (shelf_at g.S.Shelf c.greatest_of.new.shelf) (shelf_at g.S.Shelf c.prove.new.shelf) c.in_ok-formula.ensures.read c.in_ok-form.ensures.read c.in_ok-greatest.ensures.read
    c.prove.ensures
