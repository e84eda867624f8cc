use Rattle.std.proofs.Common.{ap, ◌∙◌}
use Rattle.lls_answers.specs.declared.status.Status.TheVariants as statuses
use Rattle.lls_answers.specs.Meaning.{shown, shown_behind}
use Rattle.lls_answers.proofs.Makings.{solved_answer, unsolved_answer}
use Rattle.lls_answers.proofs.making.made_answer.Goals as goal

pub returns-in_ok-summary-in-Sat : goal.returns-in_ok-summary-in-Sat
returns-in_ok-summary-in-Sat c =
    λ seed size name is. solved_answer seed size name c.args.effort c.args.pair.now c.args.formula.now _ is c.requires.formula c.requires.solution
    (ap (shown statuses.Pattern) (c.plain.ensures ∙ c.in_ok-summary-in-Sat.ensures))

pub returns-in_ok-log_file-in-Undecided : goal.returns-in_ok-log_file-in-Undecided
returns-in_ok-log_file-in-Undecided c =
    let file = c.in_ok-log_file-in-Undecided.field-0 in
    let made = c.in_ok-log_file-in-Undecided.ensures in
    λ seed size name is. unsolved_answer seed size name c.args.effort c.args.pair.now c.args.formula.now c.args.log.now.steps file _ is c.requires.formula
    made.file c.requires.kept (c.requires.spent c.in-Undecided.is)
    (ap (shown_behind file statuses.Undecided) (c.plain-in-Undecided.ensures ∙ c.in_ok-summary-in-Undecided.ensures))
