use Rattle.std.proofs.Common.{ap, ap₂, sym, subst, Bool, List, ◌∙◌}
use Rattle.lls_lit.specs.Formula.{Cnf}
use Rattle.lls_least.specs.Extremal.{beyond_it}
use Rattle.lls_answers.specs.declared.status.Status.TheVariants as statuses
use Rattle.lls_answers.specs.Evidence.{HasProof, IsEvidence}
use Rattle.lls_answers.specs.Extremal.{counted_text}
use Rattle.lls_answers.specs.Meaning.{shown, shown_behind}
use Rattle.lls_answers.specs.Subject.{subject_formula}
use Rattle.lls_answers.proofs.ExtremalAnswers.{asks_beyond, certified_by, last_answer, none_beyond, of_extreme, one_beyond, utmost_answer}
use Rattle.lls_answers.proofs.extremal.shown.Goals as goal

pub returns-in-None : goal.returns-in-None
returns-in-None c =
    let extreme = c.args.extreme in
    let asked = c.args.asked.now in
    let history = c.args.history.now in
    let none = none_beyond extreme asked history c.args.next.now c.in-None.is c.requires.next in
    last_answer extreme asked c.args.effort c.args.rle history _ (of_extreme extreme asked history c.requires.shown.solution c.requires.utmost) none
    (ap (shown statuses.Pattern)
    (c.plain.ensures ∙ c.in_ok-text.ensures ∙ ap₂ (λ word (rule : List Bool). counted_text word c.args.rle rule history) c.shown_word.ensures c.rule.ensures))

pub proof_file-requires : goal.proof_file-requires
proof_file-requires c =
    let extreme = c.args.extreme in
    let asked = c.args.asked.now in
    let history = c.args.history.now in
    let steps = c.args.log.now.steps in
    let own = one_beyond extreme asked history c.args.next.now _ c.in-Some.is c.requires.next in
    subst (λ (f : Cnf). IsEvidence f c.args.effort steps) (sym (c.formula.ensures.formula ∙ ap subject_formula own.2))
    (certified_by asked c.args.effort steps (beyond_it extreme asked.problem history) own.0 own.1 c.requires.kept c.requires.shown.certified)

pub returns-in_ok-checked-in-Some : goal.returns-in_ok-checked-in-Some
returns-in_ok-checked-in-Some c =
    let extreme = c.args.extreme in
    let asked = c.args.asked.now in
    let history = c.args.history.now in
    let own = one_beyond extreme asked history c.args.next.now _ c.in-Some.is c.requires.next in
    let solution = c.requires.shown.solution in
    let file = c.in_ok-checked-in-Some.file in
    utmost_answer extreme asked c.args.effort c.args.rle history own.0 file _ (of_extreme extreme asked history solution c.requires.utmost)
    (asks_beyond extreme asked history own.0 c.posed-posed.ensures.kept c.demands-demands.ensures.kept c.requires.room solution own.1)
    (subst (λ (f : Cnf). HasProof f c.args.effort file) (c.formula.ensures.formula ∙ ap subject_formula own.2) c.in_ok-checked-in-Some.ensures.proof)
    (ap (shown_behind file statuses.Pattern)
    (c.certified.ensures ∙ c.in_ok-text.ensures ∙ ap₂ (λ word (rule : List Bool). counted_text word c.args.rle rule history) c.shown_word.ensures c.rule.ensures))
