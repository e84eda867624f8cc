use Rattle.std.proofs.Common.{ℕ, List, ◌≡◌, ◌+◌, ◌∙◌, arith, pos, ◌-ℤ◌, ap, sym}
use Rattle.std.specs.List.{flat_map, range_with_len}
use Rattle.lls_encode.specs.Formula.{place_clauses, framed_count, first_framed}
use Rattle.lls_transition.specs.Clause.{with_clauses}
use Rattle.lls_lit.specs.Formula.{Clause}
use Rattle.lls_encode.proofs.Steps.{pushed_more, pushed_all, HasRoom-after, flat_map-map}
use Rattle.lls_encode.proofs.Bounds.{length-place_clauses}
use Rattle.lls_encode.proofs.transition.push_line.Goals as goal

pub push_place-requires-clause-room : goal.push_place-requires-clause-room
push_place-requires-clause-room c =
    HasRoom-after _ _ (λ k. place_clauses c.args.problem.now c.args.form c.args.cubes.now c.args.t (pos c.args.line -ℤ pos 1) (pos k -ℤ pos 1)) 512 c.first_framed-first.result c.loop-column.column 66 33792
    (λ k. length-place_clauses c.args.problem.now c.args.form c.args.cubes.now c.requires.cubes c.args.t (pos c.args.line -ℤ pos 1) (pos k -ℤ pos 1)) c.loop-column.invariant (omega (arith, c.loop-column-test.true, c.framed_count-column-end.ensures.small, c.posed.ensures.kept.width)) (omega arith) c.requires.room

pub loop-column-preserved : goal.loop-column-preserved
loop-column-preserved c =
    pushed_more _ _ _ (λ k. place_clauses c.args.problem.now c.args.form c.args.cubes.now c.args.t (pos c.args.line -ℤ pos 1) (pos k -ℤ pos 1)) c.first_framed-first.result c.loop-column.column (c.first_framed-first.result + c.loop-column.column)
    c.loop-column.invariant c.in_ok-push_place.ensures (omega arith)

pub returns : goal.returns
returns c =
    let f : ℕ → List Clause = λ k. place_clauses c.args.problem.now c.args.form c.args.cubes.now c.args.t (pos c.args.line -ℤ pos 1) (pos k -ℤ pos 1) in
    let edge : c.demands.result.now.edge ≡ c.args.problem.now.demands.edge = ap (λ d. d.edge) c.demands.ensures.value in
    let width : c.behind-problem.inside.width ≡ c.args.problem.now.posed.width = ap (λ p. p.width) (c.behind-problem.view_is ∙ c.posed.ensures.value) in
    let count : c.loop-column.column ≡ framed_count c.args.problem.now.demands.edge c.args.problem.now.posed.width =
    omega (arith, c.loop-column.auto.column-end, c.loop-column-test.false, c.framed_count-column-end.ensures.value ∙ ap (λ e. framed_count e c.behind-problem.inside.width) edge ∙ ap (framed_count c.args.problem.now.demands.edge) width) in
    let first : c.first_framed-first.result ≡ first_framed c.args.problem.now.demands.edge = c.first_framed-first.ensures.value ∙ ap first_framed edge in
    pushed_all _ _ f c.first_framed-first.result c.loop-column.column _ c.loop-column.invariant count
    ∙ ap (λ a. with_clauses c.args.formula.now (flat_map f (range_with_len a (framed_count c.args.problem.now.demands.edge c.args.problem.now.posed.width)))) first
    ∙ ap (with_clauses c.args.formula.now) (sym (flat_map-map (place_clauses c.args.problem.now c.args.form c.args.cubes.now c.args.t (pos c.args.line -ℤ pos 1)) _ _))
