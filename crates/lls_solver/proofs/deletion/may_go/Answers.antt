use Rattle.std.proofs.Common.{sym, ◌∙◌}
use Rattle.std.proofs.lemmas.Bool.{ltb-true}
use Rattle.lls_solver.proofs.Marks.{may_go_from}
use Rattle.lls_solver.proofs.deletion.may_go.Goals as goal

pub returns : goal.returns
returns g c = λ above.
    may_go_from (g.S.Store.state c.args.store.now).live c.args.reasons.now c.args.last c.args.c c.id.result (sym c.live.ensures ∙ c.if-not-live.false) c.id.ensures (ltb-true c.args.last c.id.result above) c.if-reasons-c.false
