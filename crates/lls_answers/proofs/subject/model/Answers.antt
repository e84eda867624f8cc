use Rattle.std.proofs.Common.{subst, sym}
use Rattle.std.proofs.lemmas.Result.{IfOk-weaker}
use Rattle.lls_answers.specs.Subject.{Shows}
use Rattle.lls_answers.specs.Subject as subjects
use Rattle.lls_answers.proofs.subject.model.Goals as goal

pub returns : goal.returns
returns c =
    IfOk-weaker c.print_model.result _ _ (λ text is rle. subst (Shows (subjects.Formula c.args.formula.now) rle) (sym is) (subjects.model c.args.assignment.now c.requires)) c.print_model.ensures
