use Rattle.std.proofs.Common.{◌≡◌, ◌+◌, ◌∙◌, ap, arith}
use Rattle.lls_encode.specs.Formula.{first_framed, framed_count}
use Rattle.lls_open.specs.Targets.{place_targets}
use Rattle.lls_open.proofs.Listed.{appended_more, appended_all}
use Rattle.lls_open.proofs.target.push_line.Goals as goal

pub loop-k-preserved : goal.loop-k-preserved
loop-k-preserved c =
    appended_more _ _ _ (place_targets c.args.problem.now c.args.t c.args.line) c.first_framed-first.result c.loop-k.k (c.first_framed-first.result + c.loop-k.k) c.loop-k.invariant c.in_ok-push_place.ensures (omega arith)

pub returns : goal.returns
returns c =
    let p = c.args.problem.now in
    let edge : c.demands.result.now.edge ≡ p.demands.edge = ap (λ d. d.edge) c.demands.ensures.value in
    let width : c.behind-problem.inside.width ≡ p.posed.width = ap (λ f. f.width) (c.behind-problem.view_is ∙ c.posed.ensures.value) in
    let first : c.first_framed-first.result ≡ first_framed p.demands.edge = c.first_framed-first.ensures.value ∙ ap first_framed edge in
    let count : c.loop-k.k ≡ framed_count p.demands.edge p.posed.width =
    omega (arith, c.loop-k.auto.k-end, c.loop-k-test.false, c.framed_count-k-end.ensures.value ∙ ap (λ e. framed_count e c.behind-problem.inside.width) edge ∙ ap (framed_count p.demands.edge) width) in
    appended_all _ _ (place_targets p c.args.t c.args.line) _ _ _ _ c.loop-k.invariant first count
