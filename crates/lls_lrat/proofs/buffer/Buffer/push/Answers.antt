use Rattle.std.proofs.lemmas.List.{length-append}
use Rattle.lls_cnf.proofs.Cut.{pieces-push, AreEnds-push}
use Rattle.lls_lrat.proofs.buffer.Buffer.push.Goals as goal

pub invariant_of-self-2 : goal.invariant_of-self-2
invariant_of-self-2 c =
    let f = c.self.inside in
    rw (c.in_ok-append.ensures.ends, c.in_ok-append.ensures.buffer, length-append f.lits.items c.args.lits.now)
    (AreEnds-push 0 f.ends.items _ _ c.self.invariant)

pub returns-clause-ok : goal.returns-clause-ok
returns-clause-ok c =
    let f = c.self.inside in
    rw (c.in_ok-append.ensures.ends, c.in_ok-append.ensures.buffer, ← c.self.view_is)
    (pieces-push 0 f.ends.items f.lits.items c.args.lits.now c.self.invariant)
