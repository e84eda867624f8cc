use Rattle.std.proofs.Common.{arith, subst, sym}
use Rattle.std.proofs.lemmas.Result.{IfOk-weaker}
use Rattle.lls_problem.proofs.Plane.{plane_law}
use Rattle.lls_open.specs.Between.{with_rule}
use Rattle.lls_answers.specs.Subject.{IsFoundBetween, Shows}
use Rattle.lls_answers.specs.Subject as subjects
use Rattle.lls_answers.proofs.Searches.{classes_fit}
use Rattle.lls_answers.proofs.subject.opened.Goals as goal

pub decode_open-requires-clause-values : goal.decode_open-requires-clause-values
decode_open-requires-clause-values c = omega (arith, c.requires.model.many, classes_fit c.args.asked.now)

pub returns : goal.returns
returns c =
    let asked = c.args.asked.now in
    let history = c.in_ok-history.history in
    let rule = c.in_ok-history.rule in
    let found = c.in_ok-history.ensures in
    let solution = found.solution asked.form c.requires.model.satisfied in
    let is_found : IsFoundBetween asked history rule = record { solution = solution; law = plane_law (with_rule asked.problem rule) history solution.solution } in
    IfOk-weaker c.rule_and_pattern.result _ _ (λ text is. subst (Shows (subjects.Rules asked) c.args.rle) (sym is) (subjects.rule_and_pattern history rule is_found)) c.rule_and_pattern.ensures
