use Rattle.std.proofs.Common.{ap, arith, subst, sym, Bool, List, ◌∙◌}
use Rattle.std.proofs.lemmas.Result.{IfOk-weaker}
use Rattle.lls_problem.proofs.Plane.{plane_law}
use Rattle.lls_answers.specs.PatternText.{pattern_text}
use Rattle.lls_answers.specs.Subject.{IsFound, Shows}
use Rattle.lls_answers.specs.Subject as subjects
use Rattle.lls_encode.proofs.Chosen.{cells_formulated}
use Rattle.lls_answers.proofs.subject.solution.Goals as goal

pub decode-requires : goal.decode-requires
decode-requires c = omega (arith, c.requires.model.many, cells_formulated c.args.asked.now.problem c.args.asked.now.formulation)

pub returns : goal.returns
returns c =
    let asked = c.args.asked.now in
    let history = c.in_ok-history.history in
    let solution = c.in_ok-history.ensures.solution asked.formulation c.requires.model.satisfied in
    let is_found : IsFound asked.problem history = record { solution = solution; law = plane_law asked.problem history solution } in
    IfOk-weaker c.print_pattern.result _ _ (λ text is.
    subst (Shows (subjects.Problem asked) c.args.rle) (sym (is ∙ ap (λ (rule : List Bool). pattern_text c.args.rle rule history) c.rule.ensures)) (subjects.pattern history is_found)) c.print_pattern.ensures
