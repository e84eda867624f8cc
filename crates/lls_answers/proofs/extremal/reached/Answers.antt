use Rattle.std.proofs.Common.{ap, ap₂, Bool, List, ◌∙◌}
use Rattle.lls_answers.specs.declared.status.Status.TheVariants as statuses
use Rattle.lls_answers.specs.Extremal.{counted_text}
use Rattle.lls_answers.specs.Meaning.{shown_behind}
use Rattle.lls_answers.proofs.ExtremalAnswers.{asks_beyond, reached_answer}
use Rattle.lls_answers.proofs.extremal.reached.Goals as goal

pub returns : goal.returns
returns c =
    let extreme = c.args.extreme in
    let asked = c.args.asked.now in
    let history = c.args.history.now in
    let own = c.requires.reached in
    let file = c.in_ok-file.file in
    reached_answer extreme asked c.args.effort c.args.rle history own.bound c.args.log.now.steps file _
    (asks_beyond extreme asked history own.bound c.posed-posed.ensures.kept c.demands-demands.ensures.kept c.requires.room own.solution own.asked) c.in_ok-file.ensures.file c.requires.kept own.spent
    (ap (shown_behind file statuses.Undecided)
    (c.plain.ensures ∙ c.in_ok-text.ensures ∙ ap₂ (λ word (rule : List Bool). counted_text word c.args.rle rule history) c.reached_word.ensures c.rule.ensures))
