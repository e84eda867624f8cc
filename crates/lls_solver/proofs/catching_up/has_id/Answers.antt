use Rattle.std.proofs.Common.{inl, inr, sym, ◌∙◌, arith}
use Rattle.std.proofs.lemmas.Bool.{cases_lt}
use Rattle.lls_solver.proofs.Ids.{id_found, id_not_at, id_missing}
use Rattle.lls_solver.proofs.catching_up.has_id.Goals as goal

pub returns-then-is_of_id : goal.returns-then-is_of_id
returns-then-is_of_id g c = id_found (g.S.Store.state c.args.store.now).live c.loop-c.c c.args.id (sym c.is_of_id.ensures ∙ c.if-is_of_id.true)

pub loop-c-preserved : goal.loop-c-preserved
loop-c-preserved g c = λ x contains below.
    elim (cases_lt x.number c.loop-c.c) [
      | inl less ↦ c.loop-c.invariant x contains less
      | inr most ↦ id_not_at (g.S.Store.state c.args.store.now).live c.loop-c.c c.args.id x c.count-c-end.ensures.live.numbers (sym c.is_of_id.ensures ∙ c.if-is_of_id.false) contains (omega (arith, below, most))
    ]

pub returns : goal.returns
returns g c = id_missing (g.S.Store.state c.args.store.now) c.args.id c.count-c-end.ensures.live (λ x contains below. c.loop-c.invariant x contains (omega (arith, below, c.loop-c-test.false, c.count-c-end.ensures.count)))
