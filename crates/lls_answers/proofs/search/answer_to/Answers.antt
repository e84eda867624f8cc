use Rattle.std.proofs.Common.{ap, Ok, ◌∙◌}
use Rattle.std.proofs.lemmas.Result.{IfOk-weaker}
use Rattle.lls_answers.specs.declared.status.Status.TheVariants as statuses
use Rattle.lls_answers.specs.Meaning.{shown, shown_behind}
use Rattle.lls_answers.specs.Subject.{subject_formula}
use Rattle.lls_answers.proofs.Searches.{found_answer, absent_answer, evidence_of, undecided_answer}
use Rattle.lls_answers.proofs.search.answer_to.Goals as goal

pub show-requires-clause-model : goal.show-requires-clause-model
show-requires-clause-model c = c.requires.outcome.sat c.in-Sat.assignment (ap Ok c.in-Sat.is)

pub absence_of-requires : goal.absence_of-requires
absence_of-requires c =
    evidence_of (subject_formula c.args.subject.now) c.args.effort c.args.log.now.steps c.requires.outcome.all_kept
    (c.requires.outcome.unsat (ap Ok c.in-Unsat.is))

pub returns-in_ok-show-in-Sat : goal.returns-in_ok-show-in-Sat
returns-in_ok-show-in-Sat c =
    found_answer c.args.subject.now c.args.effort c.args.rle _ _ c.in_ok-show-in-Sat.ensures (ap (shown statuses.Pattern) c.plain.ensures)

pub returns-in-Unsat : goal.returns-in-Unsat
returns-in-Unsat c =
    IfOk-weaker c.absence_of.result _ _ (λ answer shows. absent_answer c.args.subject.now c.args.effort c.args.rle answer shows) c.absence_of.ensures

pub returns-in_ok-file-in-Undecided : goal.returns-in_ok-file-in-Undecided
returns-in_ok-file-in-Undecided c =
    let effort = c.args.effort in
    let file = c.in_ok-file-in-Undecided.file in
    IfOk-weaker c.of_text.result _ _ (λ answer is.
    undecided_answer c.args.subject.now effort c.args.rle c.args.log.now.steps file answer c.in_ok-file-in-Undecided.ensures.file c.requires.outcome.all_kept
    (c.requires.outcome.undecided (ap Ok c.in-Undecided.is))
    (is ∙ ap (shown_behind file statuses.Undecided) c.undecided.ensures)) c.of_text.ensures
