use Rattle.std.proofs.Common.{◌≡◌, [], ◌∙◌, ap, arith}
use Rattle.lls_open.specs.Targets.{generation_targets, targets_of}
use Rattle.lls_open.proofs.Listed.{appended_more, appended_all}
use Rattle.lls_open.proofs.target.targets_of.Goals as goal

pub loop-t-preserved : goal.loop-t-preserved
loop-t-preserved c =
    appended_more [] _ _ (generation_targets c.args.problem.now) 0 c.loop-t.t c.loop-t.t c.loop-t.invariant c.in_ok-push_generation.ensures (omega arith)

pub returns : goal.returns
unfolding targets_of
returns c =
    let generations : c.behind-problem.inside.generations ≡ c.args.problem.now.posed.generations = ap (λ f. f.generations) (c.behind-problem.view_is ∙ c.posed.ensures.value) in
    appended_all [] _ (generation_targets c.args.problem.now) _ _ _ _ c.loop-t.invariant (omega arith) (omega (arith, c.loop-t.auto.t-end, c.loop-t-test.false, generations))
