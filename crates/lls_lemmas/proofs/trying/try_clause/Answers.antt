use Rattle.std.proofs.Common.{sym, subst}
use Rattle.lls_store.specs.Trail.{TrailState}
use Rattle.lls_store.specs.Store.{StoreState}
use Rattle.lls_lemmas.specs.Units.{IsReady}
use Rattle.lls_lemmas.proofs.trying.try_clause.Goals as goal

pub try_settled-requires-clause-ready : goal.try_settled-requires-clause-ready
try_settled-requires-clause-ready g c =
    let e = c.settle_again.ensures in
    let s = g.S.Store.state c.settle_again.new.store in
    subst (λ (t : TrailState). IsReady s t c.args.units.now c.args.gathering.now.marks.vars) (sym e.trail)
    (subst (λ (x : StoreState). IsReady x c.args.trail.now c.args.units.now c.args.gathering.now.marks.vars) (sym e.state) c.requires.ready)
