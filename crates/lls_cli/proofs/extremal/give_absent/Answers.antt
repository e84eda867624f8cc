use Rattle.std.proofs.Common.{sym, subst}
use Rattle.std.proofs.lemmas.Result.{IfOk-weaker}
use Rattle.lls_answers.specs.Evidence.{IsEvidence}
use Rattle.lls_answers.specs.Questions as questions
use Rattle.lls_answers.specs.Shown.{ShowsNone}
use Rattle.lls_answers.specs.Subject.{Subject, subject_formula}
use Rattle.lls_answers.proofs.ExtremalAnswers.{no_solution_answer}
use Rattle.lls_cli.specs.Ends.{lacked}
use Rattle.lls_cli.proofs.Ending.{lacks}
use Rattle.lls_cli.proofs.extremal.give_absent.Goals as goal

pub absence_of-requires : goal.absence_of-requires
absence_of-requires g c = subst (λ (s : Subject). IsEvidence (subject_formula s) c.args.effort c.args.log.now.steps) (sym c.in-Ok.ensures) c.requires

pub returns-in-Ok-clause-end : goal.returns-in-Ok-clause-end
returns-in-Ok-clause-end g c = λ extreme rle.
    let asked = c.args.asked in
    c.give.ensures.end (questions.Extremal extreme asked c.args.effort rle)
    (IfOk-weaker c.absence_of.result _ _ (λ answer shows.
    no_solution_answer extreme asked c.args.effort rle answer (subst (λ (s : Subject). ShowsNone s c.args.effort answer) c.in-Ok.ensures shows)) c.absence_of.ensures)

pub returns-in-Err-clause-end : goal.returns-in-Err-clause-end
returns-in-Err-clause-end g c = λ extreme rle. (lacked, lacks _ _ _ _ _ (g.met.S.Shelf.faults_fit c.args.outside.now.shelf.now) c.lack.ensures.status c.lack.ensures.line)
