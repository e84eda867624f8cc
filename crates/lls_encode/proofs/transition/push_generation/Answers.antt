use Rattle.std.proofs.Common.{ℕ, List, ◌≡◌, ◌+◌, ◌∙◌, arith, pos, ◌-ℤ◌, ap, sym}
use Rattle.std.specs.List.{flat_map, range_with_len}
use Rattle.lls_encode.specs.Formula.{line_clauses, framed_count, first_framed}
use Rattle.lls_transition.specs.Clause.{with_clauses}
use Rattle.lls_lit.specs.Formula.{Clause}
use Rattle.lls_encode.proofs.Steps.{pushed_more, pushed_all, HasRoom-after, flat_map-map}
use Rattle.lls_encode.proofs.Bounds.{length-line_clauses}
use Rattle.lls_encode.proofs.transition.push_generation.Goals as goal

pub push_line-requires-clause-room : goal.push_line-requires-clause-room
push_line-requires-clause-room c =
    HasRoom-after _ _ (λ k. line_clauses c.args.problem.now c.args.form c.args.cubes.now c.args.t (pos k -ℤ pos 1)) 33792 c.first_framed-first.result c.loop-line.line 66 2230272
    (λ k. length-line_clauses c.args.problem.now c.args.form c.args.cubes.now c.requires.cubes c.args.t (pos k -ℤ pos 1) c.posed.ensures.kept.width.1) c.loop-line.invariant (omega (arith, c.loop-line-test.true, c.framed_count-line-end.ensures.small, c.posed.ensures.kept.height)) (omega arith) c.requires.room

pub loop-line-preserved : goal.loop-line-preserved
loop-line-preserved c =
    pushed_more _ _ _ (λ k. line_clauses c.args.problem.now c.args.form c.args.cubes.now c.args.t (pos k -ℤ pos 1)) c.first_framed-first.result c.loop-line.line (c.first_framed-first.result + c.loop-line.line)
    c.loop-line.invariant c.in_ok-push_line.ensures (omega arith)

pub returns : goal.returns
returns c =
    let f : ℕ → List Clause = λ k. line_clauses c.args.problem.now c.args.form c.args.cubes.now c.args.t (pos k -ℤ pos 1) in
    let edge : c.demands.result.now.edge ≡ c.args.problem.now.demands.edge = ap (λ d. d.edge) c.demands.ensures.value in
    let height : c.behind-problem.inside.height ≡ c.args.problem.now.posed.height = ap (λ p. p.height) (c.behind-problem.view_is ∙ c.posed.ensures.value) in
    let count : c.loop-line.line ≡ framed_count c.args.problem.now.demands.edge c.args.problem.now.posed.height =
    omega (arith, c.loop-line.auto.line-end, c.loop-line-test.false, c.framed_count-line-end.ensures.value ∙ ap (λ e. framed_count e c.behind-problem.inside.height) edge ∙ ap (framed_count c.args.problem.now.demands.edge) height) in
    let first : c.first_framed-first.result ≡ first_framed c.args.problem.now.demands.edge = c.first_framed-first.ensures.value ∙ ap first_framed edge in
    pushed_all _ _ f c.first_framed-first.result c.loop-line.line _ c.loop-line.invariant count
    ∙ ap (λ a. with_clauses c.args.formula.now (flat_map f (range_with_len a (framed_count c.args.problem.now.demands.edge c.args.problem.now.posed.height)))) first
    ∙ ap (with_clauses c.args.formula.now) (sym (flat_map-map (line_clauses c.args.problem.now c.args.form c.args.cubes.now c.args.t) _ _))
