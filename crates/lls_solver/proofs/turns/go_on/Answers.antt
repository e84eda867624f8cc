use Rattle.std.proofs.Common.{◌≡◌, Ok, ap, subst}
use Rattle.lls_solver.specs.declared.outcome.Outcome.{Outcome}
use Rattle.lls_solver.specs.declared.outcome.Outcome.TheVariants.{Undecided}
use Rattle.lls_solver.specs.Searching.{IsOutcome}
use Rattle.lls_solver.proofs.Outcomes.{exhausted_outcome}
use Rattle.lls_solver.proofs.turns.go_on.Goals as goal

pub returns-in-Spent-clause-ended : goal.returns-in-Spent-clause-ended
returns-in-Spent-clause-ended g c outcome is =
    let formula = c.args.formula.now in
    let steps = c.turn.new.log.steps in
    let exhausted = c.in_ok-turn.ensures.spent (ap Ok c.in-Spent.is) in
    let kept = c.in_ok-turn.ensures.all_kept c.args.keep_all c.requires.under_way.kept in
    let same : Undecided ≡ outcome = cc in
    subst (λ (o : Outcome). IsOutcome formula c.args.budget c.args.keep_all steps (Ok o)) same (exhausted_outcome formula c.args.budget c.args.keep_all steps exhausted kept)
