use Rattle.std.proofs.Common.{sym, ◌∙◌}
use Rattle.lls_prooflog.specs.UnitWalk.{numbered}
use Rattle.lls_lrat.specs.Stored.{flagged}
use Rattle.lls_lrat.proofs.Kept.{find-kept_none}
use Rattle.lls_lrat.proofs.Flagged.{find-flagged}
use Rattle.lls_lrat.proofs.given.Given.find.Goals as goal

pub returns-in_err-place : goal.returns-in_err-place
returns-in_err-place c =
    let g = c.self.inside in
    rw (c.from_residual.ensures, ← c.self.view_is)
    (sym (find-kept_none (flagged g.live.items) 0 (numbered g.formula.now.clauses) c.args.id (rw (← c.deref.ensures.value) (sym c.live_place.ensures.place ∙ c.in_err-place.was))))

pub returns : goal.returns
returns c =
    let g = c.self.inside in
    rw (← c.self.view_is)
    (sym (find-flagged g.live.items g.formula.now.clauses c.args.id c.in_ok-place.place c.clause.result.now (rw (← c.deref.ensures.value) (sym c.live_place.ensures.place ∙ c.in_ok-place.was)) c.clause.ensures.value))
