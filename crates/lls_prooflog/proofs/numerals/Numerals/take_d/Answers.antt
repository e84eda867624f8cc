use Rattle.std.proofs.Common.{sym}
use Rattle.lls_prooflog.proofs.FirstWords.{d-first, d-behind, d-none}
use Rattle.lls_prooflog.proofs.numerals.Numerals.take_d.Goals as goal

pub returns-in-Some-clause-found : goal.returns-in-Some-clause-found
returns-in-Some-clause-found c =
    let n = c.self.inside in
    rw (← c.self.view_is) (sym (d-first n.len n.rest.now c.in-Some.behind.now c.self.invariant.0 (rw c.behind_blanks.ensures.rest at c.in-Some.ensures.rest)))

pub returns-in-Some-clause-rest : goal.returns-in-Some-clause-rest
returns-in-Some-clause-rest c =
    let n = c.self.inside in
    rw (← c.self.view_is) (d-behind n.len n.rest.now c.in-Some.behind.now c.self.invariant.0 (rw c.behind_blanks.ensures.rest at c.in-Some.ensures.rest))

pub returns-in-None-clause-found : goal.returns-in-None-clause-found
returns-in-None-clause-found c =
    let n = c.self.inside in
    rw (← c.self.view_is) (sym (d-none n.len n.rest.now c.self.invariant.0 (rw c.behind_blanks.ensures.rest at c.in-None.ensures.rest)))
