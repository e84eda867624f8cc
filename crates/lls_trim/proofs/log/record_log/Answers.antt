use Rattle.std.proofs.Common.{◌+◌, List, map, drop, sym, ap, ◌∙◌, subst, arith}
use Rattle.std.proofs.lemmas.List.{drop_all}
use Rattle.lls_prooflog.specs.declared.step.Step.{Step}
use Rattle.lls_prooflog.specs.Log.{step_of_ref}
use Rattle.lls_lrat.specs.Verdict.{answer_of}
use Rattle.lls_lrat.proofs.Verdicts.{drop-next, is_going, is_done}
use Rattle.lls_trim.specs.Placed.{Placed}
use Rattle.lls_trim.specs.Inferences.{inferences_of}
use Rattle.lls_trim.specs.Recording.{recording_of, GoesOn}
use Rattle.lls_trim.proofs.Readings.{reading_of_step, verdict_of-steps, steps_of_log-readings, goes_on-start, goes_on, ends_accepted, ends_refused, ends_open}
use Rattle.lls_trim.proofs.log.record_log.Goals as goal

pub loop-k-init : goal.loop-k-init
loop-k-init c = record {
  numbered = c.in_ok-recorder.ensures.numbered;
  goes_on = goes_on-start c.args.formula.now (map reading_of_step c.args.log.now.steps) (recording_of c.in_ok-recorder.recorder) c.in_ok-recorder.ensures.begun;
}

pub loop-k-preserved : goal.loop-k-preserved
loop-k-preserved c =
    let steps = c.args.log.now.steps in
    let step = step_of_ref c.lend.result in
    let readings = map reading_of_step steps in
    let g = subst (λ (ss : List Step). GoesOn c.args.formula.now readings (recording_of c.loop-k.recorder) c.loop-k.k (map reading_of_step ss)) (drop-next steps c.loop-k.k step c.lend.ensures.step) c.loop-k.invariant.goes_on in
    record {
      numbered = c.in-Ok-Going.ensures.numbered;
      goes_on = goes_on c.args.formula.now readings (recording_of c.loop-k.recorder) c.loop-k.k (map reading_of_step (drop (c.loop-k.k + 1) steps)) (reading_of_step step) (recording_of c.take.new.self) g c.in-Ok-Going.ensures.recorded
          (is_going c.take.new.self.checker.done (sym c.in-Ok-Going.field-0-is ∙ c.in-Ok-Going.ensures.progress));
    }

pub returns-in-Ok-Done-clause-inferences : goal.returns-in-Ok-Done-clause-inferences
returns-in-Ok-Done-clause-inferences c =
    let steps = c.args.log.now.steps in
    let step = step_of_ref c.lend.result in
    let readings = map reading_of_step steps in
    let g = subst (λ (ss : List Step). GoesOn c.args.formula.now readings (recording_of c.loop-k.recorder) c.loop-k.k (map reading_of_step ss)) (drop-next steps c.loop-k.k step c.lend.ensures.step) c.loop-k.invariant.goes_on in
    let ends = ends_accepted c.args.formula.now readings (recording_of c.loop-k.recorder) c.loop-k.k (map reading_of_step (drop (c.loop-k.k + 1) steps)) (reading_of_step step) (recording_of c.take.new.self) g c.in-Ok-Done.ensures.recorded
    (is_done c.take.new.self.checker.done (sym c.in-Ok-Done.field-0-is ∙ c.in-Ok-Done.ensures.progress))
    in c.finish.ensures ∙ ends.0 ∙ ap (λ (placed : Placed). inferences_of c.args.formula.now placed) (sym (steps_of_log-readings steps))

pub returns-in-Ok-Done-clause-accepted : goal.returns-in-Ok-Done-clause-accepted
returns-in-Ok-Done-clause-accepted c =
    let steps = c.args.log.now.steps in
    let step = step_of_ref c.lend.result in
    let readings = map reading_of_step steps in
    let g = subst (λ (ss : List Step). GoesOn c.args.formula.now readings (recording_of c.loop-k.recorder) c.loop-k.k (map reading_of_step ss)) (drop-next steps c.loop-k.k step c.lend.ensures.step) c.loop-k.invariant.goes_on in
    let ends = ends_accepted c.args.formula.now readings (recording_of c.loop-k.recorder) c.loop-k.k (map reading_of_step (drop (c.loop-k.k + 1) steps)) (reading_of_step step) (recording_of c.take.new.self) g c.in-Ok-Done.ensures.recorded
    (is_done c.take.new.self.checker.done (sym c.in-Ok-Done.field-0-is ∙ c.in-Ok-Done.ensures.progress))
    in verdict_of-steps c.args.formula.now steps ∙ ends.1

pub returns-in-Err-clause-refused : goal.returns-in-Err-clause-refused
returns-in-Err-clause-refused c =
    let steps = c.args.log.now.steps in
    let step = step_of_ref c.lend.result in
    let readings = map reading_of_step steps in
    let g = subst (λ (ss : List Step). GoesOn c.args.formula.now readings (recording_of c.loop-k.recorder) c.loop-k.k (map reading_of_step ss)) (drop-next steps c.loop-k.k step c.lend.ensures.step) c.loop-k.invariant.goes_on in
    λ other.
    ap answer_of (verdict_of-steps c.args.formula.now steps)
    ∙ ends_refused c.args.formula.now readings (recording_of c.loop-k.recorder) c.loop-k.k (map reading_of_step (drop (c.loop-k.k + 1) steps)) (reading_of_step step) c.in-Err.error g (c.in-Err.ensures.recorded other)

pub returns-clause-refused : goal.returns-clause-refused
returns-clause-refused c =
    let steps = c.args.log.now.steps in
    let readings = map reading_of_step steps in
    let none = drop_all c.loop-k.k steps (omega (arith, c.loop-k-test.false, c.len-k-end.ensures)) in
    let g = subst (λ (ss : List Step). GoesOn c.args.formula.now readings (recording_of c.loop-k.recorder) c.loop-k.k (map reading_of_step ss)) none c.loop-k.invariant.goes_on in
    λ _. ap answer_of (verdict_of-steps c.args.formula.now steps ∙ ends_open c.args.formula.now readings (recording_of c.loop-k.recorder) c.loop-k.k g)
