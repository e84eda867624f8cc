use Rattle.lls_prooflog.specs.UnitWalk.{numbered}
use Rattle.lls_lrat.specs.Stored.{flagged}
use Rattle.lls_lrat.specs.Grouped.{is_lacking}
use Rattle.lls_lrat.proofs.Lacking.{FirstFrom}
use Rattle.lls_lrat.proofs.given.Given.first_lacking.Given as goal

abbrev pub invariant-loop-place : goal.invariant-loop-place
invariant-loop-place l =
    let g = l.self-inside in
    FirstFrom (is_lacking l.lit l.ids) (flagged g.live.items) (numbered g.formula.now.clauses) l.place
