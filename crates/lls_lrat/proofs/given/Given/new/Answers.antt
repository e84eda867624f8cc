use Rattle.std.proofs.Common.{◌≡◌, true, replicate, rules}
use Rattle.lls_lrat.proofs.Flagged.{kept-flagged}
use Rattle.lls_lrat.proofs.given.Given.new.Goals as goal

pub returns : goal.returns
returns c =
    let set : c.in_ok-live.live.items ≡ replicate c.len.result true = search rules in
    rw (set, c.len.ensures.len) (kept-flagged c.args.formula.now.clauses)
