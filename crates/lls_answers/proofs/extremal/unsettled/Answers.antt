use Rattle.std.proofs.lemmas.Result.{IfOk-weaker}
use Rattle.lls_answers.proofs.ExtremalAnswers.{unsettled_answer}
use Rattle.lls_answers.proofs.extremal.unsettled.Goals as goal

pub returns : goal.returns
returns c =
    λ extreme asked rle spent kept.
    IfOk-weaker c.of_text.result _ _ (λ answer is. unsettled_answer extreme asked c.args.effort rle c.args.log.now.steps c.in_ok-file.file answer c.in_ok-file.ensures.file kept spent is) c.of_text.ensures
