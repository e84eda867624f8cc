use Rattle.std.proofs.Common.{◌≡◌, ◌+◌, ◌∙◌, ap, arith}
use Rattle.lls_encode.specs.Formula.{first_framed, framed_count}
use Rattle.lls_open.specs.Targets.{line_targets}
use Rattle.lls_open.proofs.Listed.{appended_more, appended_all}
use Rattle.lls_open.proofs.target.push_generation.Goals as goal

pub loop-k-preserved : goal.loop-k-preserved
loop-k-preserved c =
    appended_more _ _ _ (line_targets c.args.problem.now c.args.t) c.first_framed-first.result c.loop-k.k (c.first_framed-first.result + c.loop-k.k) c.loop-k.invariant c.in_ok-push_line.ensures (omega arith)

pub returns : goal.returns
returns c =
    let p = c.args.problem.now in
    let edge : c.demands.result.now.edge ≡ p.demands.edge = ap (λ d. d.edge) c.demands.ensures.value in
    let height : c.behind-problem.inside.height ≡ p.posed.height = ap (λ f. f.height) (c.behind-problem.view_is ∙ c.posed.ensures.value) in
    let first : c.first_framed-first.result ≡ first_framed p.demands.edge = c.first_framed-first.ensures.value ∙ ap first_framed edge in
    let count : c.loop-k.k ≡ framed_count p.demands.edge p.posed.height =
    omega (arith, c.loop-k.auto.k-end, c.loop-k-test.false, c.framed_count-k-end.ensures.value ∙ ap (λ e. framed_count e c.behind-problem.inside.height) edge ∙ ap (framed_count p.demands.edge) height) in
    appended_all _ _ (line_targets p c.args.t) _ _ _ _ c.loop-k.invariant first count
