use Rattle.std.proofs.Common.{◌≡◌, ◌<◌, arith, ap, ◌∙◌, below_more}
use Rattle.std.proofs.lemmas.Int.{ints}
use Rattle.lls_problem.specs.Transitions.{KeepsGeneration}
use Rattle.lls_problem.proofs.Sides.{IsFirstTransition-by_lines, Obeys-by_generations}
use Rattle.lls_problem.proofs.transitions.first_transition.Goals as goal

pub returns-in-Some : goal.returns-in-Some
returns-in-Some c =
    let breaks = c.in-Some.ensures in
    let line_in : c.in-Some.place.line < 66 = omega (arith, breaks.within, c.posed.ensures.kept.height) in
    let column_in : c.in-Some.place.column < 66 = omega (arith, breaks.broken.within, c.posed.ensures.kept.width) in
    IsFirstTransition-by_lines c.args.problem.now c.args.history.now c.loop-t.t c.in-Some.place.line c.in-Some.place.column _ _
    (omega (arith, ints)) (omega (arith, ints)) c.loop-t.invariant breaks

pub loop-t-preserved : goal.loop-t-preserved
loop-t-preserved c =
    below_more (λ s. 0 < s → KeepsGeneration c.args.problem.now c.args.history.now s) c.loop-t.t c.loop-t.invariant (λ later. c.in_default.ensures)

pub returns : goal.returns
returns c =
    let generations : c.behind-problem.inside.generations ≡ c.args.problem.now.posed.generations = ap (λ f. f.generations) (c.behind-problem.view_is ∙ c.posed.ensures.value) in
    Obeys-by_generations c.args.problem.now c.args.history.now (λ t below. c.loop-t.invariant t (omega (arith, generations, c.loop-t-test.false)))
