use Rattle.std.proofs.Common.{◌≡◌, ap, ◌∙◌, arith}
use Rattle.lls_problem.specs.Unlike.{unlike_in_generation}
use Rattle.lls_problem.proofs.FirstOf.{found_first, none_more, none_at_all}
use Rattle.lls_problem.proofs.unlike.first_under.Goals as goal

pub returns-in-Some : goal.returns-in-Some
returns-in-Some c =
    let size : c.behind-problem.inside.generations ≡ c.args.problem.now.posed.generations = ap (λ f. f.generations) (c.behind-problem.view_is ∙ c.posed.ensures.value) in
    found_first (unlike_in_generation c.args.problem.now c.args.history.now c.args.k) _ c.loop-t.t c.in-Some.place c.loop-t.invariant c.in-Some.ensures (omega (arith, size, c.loop-t-test.true))

pub loop-t-preserved : goal.loop-t-preserved
loop-t-preserved c =
    none_more (unlike_in_generation c.args.problem.now c.args.history.now c.args.k) c.loop-t.t c.loop-t.invariant c.in_default.ensures

pub returns : goal.returns
returns c =
    let size : c.behind-problem.inside.generations ≡ c.args.problem.now.posed.generations = ap (λ f. f.generations) (c.behind-problem.view_is ∙ c.posed.ensures.value) in
    none_at_all (unlike_in_generation c.args.problem.now c.args.history.now c.args.k) _ c.loop-t.t c.loop-t.invariant (omega (arith, size, c.loop-t-test.false, c.loop-t.auto.t-end))
