use Rattle.std.proofs.Common.{◌∙◌, sym}
use Rattle.std.proofs.lemmas.Result.{on_ok_weaker}
use Rattle.lls_transition.proofs.Distinct.{pushed_new}
use Rattle.lls_transition.proofs.once.push_new.Goals as goal

pub returns-clause-ok : goal.returns-clause-ok
returns-clause-ok c =
    on_ok_weaker c.push.result (λ pushed. pushed ∙ pushed_new c.args.formula.now c.args.first c.args.lits.now (sym c.is_among.ensures ∙ c.if-is_among.false)) c.push.ensures.ok
