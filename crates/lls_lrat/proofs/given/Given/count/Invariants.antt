use Rattle.lls_prooflog.specs.UnitWalk.{numbered}
use Rattle.lls_lrat.specs.Stored.{flagged}
use Rattle.lls_lrat.proofs.Occurring.{CountedFrom}
use Rattle.lls_lrat.proofs.given.Given.count.Given as goal

abbrev pub invariant-loop-place : goal.invariant-loop-place
invariant-loop-place l =
    let g = l.self-inside in
    CountedFrom (flagged g.live.items) (numbered g.formula.now.clauses) l.initial.counts l.counts l.place
