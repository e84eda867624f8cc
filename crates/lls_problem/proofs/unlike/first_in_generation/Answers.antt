use Rattle.std.proofs.Common.{◌≡◌, ap, ◌∙◌, arith}
use Rattle.lls_problem.specs.Unlike.{unlike_in_row}
use Rattle.lls_problem.proofs.FirstOf.{found_first, none_more, none_at_all}
use Rattle.lls_problem.proofs.unlike.first_in_generation.Goals as goal

pub returns-in-Some : goal.returns-in-Some
returns-in-Some c =
    let size : c.behind-problem.inside.height ≡ c.args.problem.now.posed.height = ap (λ f. f.height) (c.behind-problem.view_is ∙ c.posed.ensures.value) in
    found_first (unlike_in_row c.args.problem.now c.args.history.now c.args.k c.args.t) _ c.loop-y.y c.in-Some.place c.loop-y.invariant c.in-Some.ensures (omega (arith, size, c.loop-y-test.true))

pub loop-y-preserved : goal.loop-y-preserved
loop-y-preserved c =
    none_more (unlike_in_row c.args.problem.now c.args.history.now c.args.k c.args.t) c.loop-y.y c.loop-y.invariant c.in_default.ensures

pub returns : goal.returns
returns c =
    let size : c.behind-problem.inside.height ≡ c.args.problem.now.posed.height = ap (λ f. f.height) (c.behind-problem.view_is ∙ c.posed.ensures.value) in
    none_at_all (unlike_in_row c.args.problem.now c.args.history.now c.args.k c.args.t) _ c.loop-y.y c.loop-y.invariant (omega (arith, size, c.loop-y-test.false, c.loop-y.auto.y-end))
