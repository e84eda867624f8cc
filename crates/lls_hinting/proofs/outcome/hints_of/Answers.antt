use Rattle.std.proofs.Common.{◌≤◌, ◌∙◌, List, Err, ap, inl, inr, length, subst}
use Rattle.std.specs.Prelude.{count_by}
use Rattle.lls_prooflog.specs.declared.step.Step.{Step}
use Rattle.lls_prooflog.specs.Spent.{is_addition}
use Rattle.lls_trim.proofs.Readings.{steps_in-log}
use Rattle.lls_hinting.proofs.Hinting.{accepted_at_end, additions_fewer, are_hints}
use Rattle.lls_hinting.specs.Judging.{progress}
use Rattle.lls_hinting.proofs.outcome.hints_of.Goals as goal

pub unreachable-requires : goal.unreachable-requires
unreachable-requires c =
    let accepted = accepted_at_end c.args.formula.now c.args.log.now.steps c.requires.well c.requires.ends in
    c.trim.ensures.not_refused accepted c.in-Err-Refused.field-0-0 (c.in-Err-Refused.is ∙ ap Err c.in-Err-Refused.field-0-is)

pub returns-in-Ok : goal.returns-in-Ok
returns-in-Ok c =
    let trimming = c.in-Ok.ensures.left in
    let steps = c.args.log.now.steps in
    let kept = c.in-Ok.trimming.log.steps in
    let fewer = subst (λ (ss : List Step). length kept ≤ count_by is_addition ss) (steps_in-log 1 steps) trimming.fewer in
    are_hints c.args.formula.now (progress steps c.args.tally) kept c.additions-given.result c.printed.result c.additions-given.ensures (additions_fewer kept steps fewer)
    c.printed.ensures.text c.printed.ensures.read_again trimming.accepted c.requires.unsatisfiable (inl (record { left = trimming.trimmed; additions = trimming.additions; again = trimming.again })) c.printed.ensures.said

pub returns-in_ok-rest-in-Err-RatStep : goal.returns-in_ok-rest-in-Err-RatStep
returns-in_ok-rest-in-Err-RatStep c =
    let line = c.in-Err-RatStep.field-0-0 in
    let is = c.in-Err-RatStep.is ∙ ap Err c.in-Err-RatStep.field-0-is in
    let printed = c.printed-in-Err-RatStep in
    let formula = c.args.formula.now in
    let steps = c.args.log.now.steps in
    let rest = c.in_ok-rest-in-Err-RatStep.rest.steps in
    let e = c.in_ok-rest-in-Err-RatStep.ensures in
    are_hints formula (progress steps c.args.tally) rest c.additions-given.result printed.result c.additions-given.ensures e.fewer
    printed.ensures.text printed.ensures.read_again (accepted_at_end formula rest e.well e.ends) c.requires.unsatisfiable (inr (e.rest, (line, c.trim.ensures.rat line is))) printed.ensures.said
