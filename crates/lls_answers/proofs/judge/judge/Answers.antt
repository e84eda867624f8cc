use Rattle.std.proofs.lemmas.Result.{IfOk-weaker}
use Rattle.lls_answers.proofs.Checks.{judged_answer}
use Rattle.lls_answers.proofs.judge.judge.Goals as goal

pub returns : goal.returns
returns c =
    let judgement = c.judge.ensures in
    IfOk-weaker c.judged.result _ _ (λ answer is.
    judged_answer c.args.problem.now c.args.history.now c.judge.result answer judgement.judgement judgement.meets judgement.broken is) c.judged.ensures
