use Rattle.std.proofs.Common.{sym, ap, ◌∙◌}
use Rattle.lls_lrat.specs.Feeding.{FeedState, last_answer}
use Rattle.lls_lrat.proofs.LineChecks.{end_gives}
use Rattle.lls_lrat.proofs.feed.Feed.end.Goals as goal

pub returns-clause-exact : goal.returns-clause-exact
returns-clause-exact c =
    let f = c.self.inside in
    let last = c.deref.ensures.value ∙ c.rest-last.ensures in
    rw (ap (λ (v : FeedState). last_answer v.feeding) (sym c.self.view_is))
    (end_gives f.check.state c.take_last.new.check.state f.lines c.finish.result (rw (← last) c.take_last.ensures.taken) c.finish.ensures.ok c.finish.ensures.err)
