use Rattle.std.proofs.Common.{◌∙◌, List, ap, length, subst}
use Rattle.std.specs.Prelude.{OnOk}
use Rattle.std.proofs.lemmas.Result.{err_from_is_err_and}
use Rattle.lls_lit.specs.Formula.{Cnf}
use Rattle.lls_prooflog.specs.Steps.{numbered, are_accepted}
use Rattle.lls_trim.specs.Placed.{steps_of_log}
use Rattle.lls_trim.specs.Inferences.{Inference}
use Rattle.lls_lrat.specs.Verdict.{log_verdict}
use Rattle.lls_lrat.proofs.Logs.{accepted_log}
use Rattle.lls_trim.specs.Needed.{IsFirstRat, NeedsNoRat}
use Rattle.lls_trim.proofs.Readings.{steps_in-log}
use Rattle.lls_trim.proofs.Theorem.{call_trims_well, on_ok_any, not_refused, no_first_rat}
use Rattle.lls_trim.proofs.log.trim.Goals as goal

pub returns-clause-left : goal.returns-clause-left
returns-clause-left c =
    let formula = c.args.formula.now in
    let steps = c.args.log.now.steps in
    let accepted = ap (are_accepted (numbered formula.clauses)) (steps_in-log 1 steps) ∙ c.in_ok-recorded.ensures.accepted in
    let does = c.trim.ensures in
    let recorded = c.in_ok-recorded.recorded in
    call_trims_well formula (steps_of_log steps) accepted recorded.inferences (length recorded.formula.clauses) c.trim.result
    c.in_ok-recorded.ensures.inferences (ap (λ (f : Cnf). length f.clauses) c.in_ok-recorded.ensures.formula) does.trims does.additions does.by_propagation

pub returns-clause-by_propagation : goal.returns-clause-by_propagation
returns-clause-by_propagation c =
    subst (λ (is : List Inference). OnOk c.trim.result (NeedsNoRat is)) c.in_ok-recorded.ensures.inferences c.trim.ensures.by_propagation

pub returns-clause-accepted : goal.returns-clause-accepted
returns-clause-accepted c = on_ok_any _ c.trim.result c.in_ok-recorded.ensures.accepted

pub returns-clause-rat_accepted : goal.returns-clause-rat_accepted
returns-clause-rat_accepted c = λ line _. c.in_ok-recorded.ensures.accepted

pub returns-in_err-recorded-clause-not_refused : goal.returns-in_err-recorded-clause-not_refused
returns-in_err-recorded-clause-not_refused c = λ accepted error is.
    let p = err_from_is_err_and c.from_residual.result c.from_residual.ensures.1 in
    not_refused c.from_residual.result c.in_err-recorded.field-0.0 (log_verdict c.args.formula.now c.args.log.now.steps) (accepted_log c.args.formula.now c.args.log.now.steps accepted) c.in_err-recorded.ensures.refused p.0 p.1 p.2 error is

pub returns-clause-not_rat : goal.returns-clause-not_rat
returns-clause-not_rat c = λ good line is.
    no_first_rat c.args.formula.now c.args.log.now.steps line good
    (subst (λ (is : List Inference). IsFirstRat is line) c.in_ok-recorded.ensures.inferences (c.trim.ensures.rat line is))
