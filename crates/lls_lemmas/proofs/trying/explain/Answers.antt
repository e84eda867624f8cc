use Rattle.std.proofs.Common.{arith}
use Rattle.lls_store.specs.Clauses.{clause_numbered}
use Rattle.lls_analyse.proofs.LiveClauses.{IsSome-from}
use Rattle.lls_lemmas.proofs.Tried.{conflict_but}
use Rattle.lls_lemmas.proofs.trying.explain.Goals as goal

pub gather-requires-clause-closing : goal.gather-requires-clause-closing
gather-requires-clause-closing g c =
    let conflict = c.requires.is_false c.in-False.number c.in-False.is in
    IsSome-from (clause_numbered (g.S.Store.state c.args.store.now).live c.in-False.number) conflict.clause conflict.is_live

pub gather_from_true-requires-clause-inside : goal.gather_from_true-requires-clause-inside
gather_from_true-requires-clause-inside g c = (c.requires.is_true c.in-True.lit c.in-True.is).0

pub returns-in_ok-gather-in-False-clause-gives : goal.returns-in_ok-gather-in-False-clause-gives
returns-in_ok-gather-in-False-clause-gives g c =
    let live = (g.S.Store.state c.args.store.now).live in
    let conflict = c.requires.is_false c.in-False.number c.in-False.is in
    λ is. c.in_ok-gather-in-False.ensures.gives c.args.lits.now c.requires.decided (conflict_but live c.args.trail.now c.args.lits.now c.len.result c.in-False.number (omega (arith, c.len.ensures.len)) conflict)
