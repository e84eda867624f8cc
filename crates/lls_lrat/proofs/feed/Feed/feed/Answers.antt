use Rattle.std.proofs.Common.{◌≡◌, ◌≢◌, ap, sym, ◌∙◌}
use Rattle.std.specs.Prelude.{Ok, Err}
use Rattle.lls_lrat.specs.Feeding.{FeedState}
use Rattle.lls_lrat.specs.declared.checker.Progress.TheVariants.{Going, Done}
use Rattle.lls_lrat.proofs.LineChecks.{fed-ended}
use Rattle.lls_lrat.proofs.feed.Feed.feed.Goals as goal

pub returns-in-Ok-Done-clause-fed : goal.returns-in-Ok-Done-clause-fed
returns-in-Ok-Done-clause-fed c =
    let f = c.self.inside in
    let done : c.answer.result ≡ Ok Done = c.in-Ok-Done.is ∙ ap Ok c.in-Ok-Done.field-0-is in
    let ended : c.answer.result ≢ Ok Going = λ e. let clash : Ok Done ≡ Ok Going = sym done ∙ e in cc in
    λ _. rw (ap (λ (v : FeedState). v.feeding) (sym c.self.view_is)) (fed-ended f.check.state c.answer.result f.lines c.args.piece.now c.answer.ensures ended)

pub returns-in-Err-clause-fed : goal.returns-in-Err-clause-fed
returns-in-Err-clause-fed c =
    let f = c.self.inside in
    let ended : c.answer.result ≢ Ok Going = λ e. let clash : Err c.in-Err.fault ≡ Ok Going = sym c.in-Err.is ∙ e in cc in
    λ _. rw (ap (λ (v : FeedState). v.feeding) (sym c.self.view_is)) (fed-ended f.check.state c.answer.result f.lines c.args.piece.now c.answer.ensures ended)
