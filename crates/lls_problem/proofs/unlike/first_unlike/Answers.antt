use Rattle.std.proofs.Common.{◌≡◌, length, ap, ◌∙◌, arith}
use Rattle.lls_symmetry.specs.Symmetry.{generators_of}
use Rattle.lls_problem.specs.Unlike.{unlike_under}
use Rattle.lls_problem.proofs.FirstOf.{found_first, none_more, none_at_all}
use Rattle.lls_problem.proofs.unlike.first_unlike.Goals as goal

pub returns-in-Some : goal.returns-in-Some
returns-in-Some c =
    let count : c.generators-k-end.result ≡ length (generators_of c.args.problem.now.demands.symmetry) = c.generators-k-end.ensures ∙ ap (λ d. length (generators_of d.symmetry)) c.demands.ensures.value in
    found_first (unlike_under c.args.problem.now c.args.history.now) _ c.loop-k.k c.in-Some.place c.loop-k.invariant c.in-Some.ensures (omega (arith, count, c.loop-k-test.true))

pub loop-k-preserved : goal.loop-k-preserved
loop-k-preserved c =
    none_more (unlike_under c.args.problem.now c.args.history.now) c.loop-k.k c.loop-k.invariant c.in_default.ensures

pub returns : goal.returns
returns c =
    let count : c.generators-k-end.result ≡ length (generators_of c.args.problem.now.demands.symmetry) = c.generators-k-end.ensures ∙ ap (λ d. length (generators_of d.symmetry)) c.demands.ensures.value in
    none_at_all (unlike_under c.args.problem.now c.args.history.now) _ c.loop-k.k c.loop-k.invariant (omega (arith, count, c.loop-k-test.false, c.loop-k.auto.k-end))
