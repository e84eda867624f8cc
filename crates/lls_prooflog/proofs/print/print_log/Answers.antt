use Rattle.std.proofs.Common.{◌++◌, All, take, ap, ◌∙◌, arith, subst}
use Rattle.std.proofs.lemmas.List.{take_all}
use Rattle.lls_prooflog.specs.StepText.{step_text, greatest_with}
use Rattle.lls_prooflog.specs.Log.{step_of_ref, log_text}
use Rattle.lls_prooflog.proofs.PrintedLogs.{IsReadable, readable_next, text_next, greatest_next, read_lines-log_text}
use Rattle.lls_prooflog.proofs.print.print_log.Goals as goal

pub loop-k-preserved : goal.loop-k-preserved
loop-k-preserved c =
    let steps = c.args.log.now.steps in
    let step = step_of_ref c.lend-step.result in
    let at = c.lend-step.ensures.step in
    record {
      text =
          c.in_ok-push_step.ensures.text
          ∙ ap (λ t. t ++ step_text c.loop-k.greatest step) c.loop-k.invariant.text
          ∙ ap (λ n. log_text (take c.loop-k.k steps) ++ step_text n step) c.loop-k.invariant.greatest
          ∙ text_next steps c.loop-k.k step at;
      greatest = c.greatest_with-greatest.ensures ∙ ap (λ n. greatest_with n step) c.loop-k.invariant.greatest ∙ greatest_next steps c.loop-k.k step at;
      readable = readable_next steps c.loop-k.k step at (record { literals = c.in_ok-push_step.ensures.literals; in_range = c.lend-step.ensures.in_range }) c.loop-k.invariant.readable;
    }

pub returns-clause-read_again : goal.returns-clause-read_again
returns-clause-read_again c =
    let steps = c.args.log.now.steps in
    let all = take_all c.loop-k.k steps (omega (arith, c.loop-k-test.false, c.len-k-end.ensures)) in
    rw (c.loop-k.invariant.text, all) (read_lines-log_text steps (subst (All IsReadable) all c.loop-k.invariant.readable))
