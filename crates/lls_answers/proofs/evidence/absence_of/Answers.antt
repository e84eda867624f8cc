use Rattle.std.proofs.Common.{ap, subst, ◌∙◌}
use Rattle.lls_lit.specs.Formula.{Cnf}
use Rattle.lls_answers.specs.declared.status.Status.TheVariants as statuses
use Rattle.lls_answers.specs.Evidence.{HasProof}
use Rattle.lls_answers.specs.Meaning.{shown_behind}
use Rattle.lls_answers.specs.Subject.{none_text}
use Rattle.lls_answers.proofs.evidence.absence_of.Goals as goal

pub returns : goal.returns
returns c =
    let made = c.in_ok-checked.ensures in
    let file = c.in_ok-checked.file in
    record {
      file = file;
      answer_is = ap (shown_behind file statuses.NoPattern) (c.absence.ensures ∙ ap none_text c.new.ensures);
      proof = subst (λ (f : Cnf). HasProof f c.args.effort file) c.formula.ensures.formula made.proof;
      absent = c.formula.ensures.none made.unsatisfiable;
    }
