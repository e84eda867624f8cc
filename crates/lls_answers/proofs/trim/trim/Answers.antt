use Rattle.std.proofs.Common.{Err, ap, ap₂, ◌∙◌}
use Rattle.std.proofs.lemmas.Result.{IfOk-weaker}
use Rattle.lls_answers.specs.declared.status.Status.TheVariants as statuses
use Rattle.lls_answers.specs.Meaning.{shown_behind}
use Rattle.lls_answers.specs.Trimming.{kept_text}
use Rattle.lls_answers.proofs.Trims.{kept_answer, not_accepted_answer, by_pivot_answer}
use Rattle.lls_answers.proofs.trim.trim.Goals as goal

pub returns-in-Ok : goal.returns-in-Ok
returns-in-Ok c =
    let formula = c.args.formula.now in
    let says = c.in-Ok.ensures in
    let file = c.in_ok-file-in-Ok.file in
    kept_answer formula c.args.proof.now c.args.output c.in-Ok.trimming file _ c.in_ok-file-in-Ok.ensures.file c.in_ok-file-in-Ok.ensures.read_again says.left says.accepted says.by_propagation
    (ap (shown_behind file statuses.Done) (c.plain.ensures ∙ c.in_ok-text-in-Ok.ensures ∙ ap₂ kept_text c.len.ensures says.left.counted))

pub returns-in-Err-Refused : goal.returns-in-Err-Refused
returns-in-Err-Refused c =
    let is = c.in-Err-Refused.is ∙ ap Err c.in-Err-Refused.field-0-is in
    IfOk-weaker c.refused.result _ _ (λ answer made.
    not_accepted_answer c.args.formula.now c.args.proof.now c.args.output c.in-Err-Refused.error answer (c.trim_bytes.ensures.refused c.in-Err-Refused.error is) made)
    (rw c.in-Err-Refused.error-is at c.refused.ensures)

pub returns-in-Err-RatStep : goal.returns-in-Err-RatStep
returns-in-Err-RatStep c =
    let is = c.in-Err-RatStep.is ∙ ap Err c.in-Err-RatStep.field-0-is in
    IfOk-weaker c.refused-in-Err-RatStep.result _ _ (λ answer made.
    by_pivot_answer c.args.formula.now c.args.proof.now c.args.output c.in-Err-RatStep.line answer
    (c.trim_bytes.ensures.rat_accepted c.in-Err-RatStep.line is) (c.trim_bytes.ensures.rat c.in-Err-RatStep.line is) made)
    (rw c.in-Err-RatStep.line-is at c.refused-in-Err-RatStep.ensures)
