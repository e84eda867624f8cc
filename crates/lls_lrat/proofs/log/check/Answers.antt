use Rattle.std.proofs.Common.{◌≡◌, ◌+◌, drop, true, sym, ap, ◌∙◌}
use Rattle.std.specs.Prelude.{fold}
use Rattle.lls_prooflog.specs.Log.{step_of_ref}
use Rattle.lls_lrat.specs.Verdict.{State, closing, answer_of, log_verdict, step_taken}
use Rattle.lls_lrat.proofs.Logs.{accepted_answer, log_accepted}
use Rattle.lls_lrat.specs.UnderWay.{at_line}
use Rattle.lls_lrat.proofs.Verdicts.{step_taken-ended, answer-fault, answer-done, same_state, is_going, is_done, drop-next}
use Rattle.lls_lrat.proofs.log.check.Goals as goal

pub loop-k-preserved : goal.loop-k-preserved
loop-k-preserved c =
    let before = at_line c.loop-k.checker c.loop-k.k in
    let step = step_of_ref c.lend.result in
    let rest = drop (c.loop-k.k + 1) c.args.log.now.steps in
    let state = step_taken before step in
    let same = same_state state state.end (at_line c.take_step.new.checker (c.loop-k.k + 1)) c.in-Ok-Going.ensures.taken in
    record {
      formula = c.in-Ok-Going.ensures.formula ∙ c.loop-k.invariant.formula;
      going = is_going c.take_step.new.checker.done (sym c.in-Ok-Going.field-0-is ∙ c.in-Ok-Going.ensures.progress);
      taken =
          ap (λ (s : State). fold step_taken s rest) (sym same)
          ∙ ap (fold step_taken before) (sym (drop-next c.args.log.now.steps c.loop-k.k step c.lend.ensures.step))
          ∙ c.loop-k.invariant.taken;
    }

pub returns-in-Err-clause-exact : goal.returns-in-Err-clause-exact
returns-in-Err-clause-exact c =
    let before = at_line c.loop-k.checker c.loop-k.k in
    let step = step_of_ref c.lend.result in
    let rest = drop (c.loop-k.k + 1) c.args.log.now.steps in
    λ other.
    ap (λ (s : State). answer_of (closing s.end)) (sym c.loop-k.invariant.taken ∙ ap (fold step_taken before) (drop-next c.args.log.now.steps c.loop-k.k step c.lend.ensures.step))
    ∙ answer-fault step_taken step_taken-ended (step_taken before step) rest c.in-Err.error (c.in-Err.ensures.taken other)

pub returns-in-Ok-Done-clause-exact : goal.returns-in-Ok-Done-clause-exact
returns-in-Ok-Done-clause-exact c =
    let before = at_line c.loop-k.checker c.loop-k.k in
    let step = step_of_ref c.lend.result in
    let rest = drop (c.loop-k.k + 1) c.args.log.now.steps in
    let done : c.take_step.new.checker.done ≡ true = is_done c.take_step.new.checker.done (sym c.in-Ok-Done.field-0-is ∙ c.in-Ok-Done.ensures.progress) in
    rw (c.conclude.ensures.exact, done)
    (ap (λ (s : State). answer_of (closing s.end)) (sym c.loop-k.invariant.taken ∙ ap (fold step_taken before) (drop-next c.args.log.now.steps c.loop-k.k step c.lend.ensures.step))
    ∙ answer-done step_taken step_taken-ended (step_taken before step) c.take_step.new.checker (c.loop-k.k + 1) rest c.in-Ok-Done.ensures.taken done)

pub returns-in-Ok-Done-clause-accepted : goal.returns-in-Ok-Done-clause-accepted
returns-in-Ok-Done-clause-accepted c =
    let before = at_line c.loop-k.checker c.loop-k.k in
    let step = step_of_ref c.lend.result in
    let steps = c.args.log.now.steps in
    let done : c.take_step.new.checker.done ≡ true = is_done c.take_step.new.checker.done (sym c.in-Ok-Done.field-0-is ∙ c.in-Ok-Done.ensures.progress) in
    rw (c.conclude.ensures.exact, done)
    (log_accepted c.args.formula.now steps
    (accepted_answer (log_verdict c.args.formula.now steps)
    (ap (λ (s : State). answer_of (closing s.end)) (sym c.loop-k.invariant.taken ∙ ap (fold step_taken before) (drop-next steps c.loop-k.k step c.lend.ensures.step))
    ∙ answer-done step_taken step_taken-ended (step_taken before step) c.take_step.new.checker (c.loop-k.k + 1) (drop (c.loop-k.k + 1) steps) c.in-Ok-Done.ensures.taken done)))
