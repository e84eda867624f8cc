use Rattle.std.proofs.Common.{◌++◌, List, sym, ap, ◌∙◌, take, arith}
use Rattle.std.proofs.lemmas.List.{take_all}
use Rattle.lls_prooflog.specs.Log.{step_of_ref}
use Rattle.lls_prooflog.specs.declared.step.Step.{Step}
use Rattle.lls_lemmas.specs.Rest.{keeps, kept_step, kept_steps}
use Rattle.lls_lemmas.proofs.RestMarks.{take_one}
use Rattle.lls_lemmas.proofs.RestSteps.{kept-push}
use Rattle.lls_lemmas.proofs.keeping.take_kept.Goals as goal

pub loop-k-preserved : goal.loop-k-preserved
loop-k-preserved c =
    let keep = keeps c.args.given c.args.marks.now in
    let steps = c.args.log.now.steps in
    let step = step_of_ref c.lend.result in
    c.in_ok-take_step.ensures ∙ ap (λ (ss : List Step). ss ++ kept_step keep step) c.loop-k.invariant
    ∙ sym (ap (kept_steps keep) (take_one steps c.loop-k.k step c.lend.ensures.step) ∙ kept-push keep (take c.loop-k.k steps) step)

pub returns : goal.returns
returns c =
    c.loop-k.invariant ∙ ap (kept_steps (keeps c.args.given c.args.marks.now)) (take_all c.loop-k.k c.args.log.now.steps (omega (arith, c.loop-k-test.false, c.len-k-end.ensures)))
