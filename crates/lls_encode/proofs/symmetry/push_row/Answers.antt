use Rattle.std.proofs.Common.{◌≡◌, ◌∙◌, ap, arith}
use Rattle.std.specs.List.{flat_map}
use Rattle.lls_symmetry.specs.Symmetry.{generator_at}
use Rattle.lls_symmetry.specs.Pairs.{pair_at}
use Rattle.lls_encode.specs.Formula.{pair_clauses}
use Rattle.lls_encode.proofs.Steps.{pushed_more, pushed_joined, HasRoom-after}
use Rattle.lls_encode.proofs.Bounds.{length-cell_pairs}
use Rattle.lls_encode.proofs.symmetry.push_row.Goals as goal

pub push_cell-requires-clause-room : goal.push_cell-requires-clause-room
push_cell-requires-clause-room c =
    let p = c.args.problem.now in
    let motion = generator_at p.demands.symmetry c.args.k in
    HasRoom-after _ _ (λ x. flat_map (pair_clauses p c.args.t) (pair_at motion p.posed.height p.posed.width c.args.y x)) 2 0 c.loop-x.x 64 128
    (length-cell_pairs p c.args.t motion p.posed.height p.posed.width c.args.y) c.loop-x.invariant (omega (arith, c.loop-x-test.true, c.posed.ensures.kept.width)) (omega arith) c.requires.room

pub loop-x-preserved : goal.loop-x-preserved
loop-x-preserved c =
    let p = c.args.problem.now in
    let motion = generator_at p.demands.symmetry c.args.k in
    pushed_more _ _ _ (λ x. flat_map (pair_clauses p c.args.t) (pair_at motion p.posed.height p.posed.width c.args.y x)) 0 c.loop-x.x c.loop-x.x
    c.loop-x.invariant c.in_ok-push_cell.ensures (omega arith)

pub returns : goal.returns
returns c =
    let p = c.args.problem.now in
    let motion = generator_at p.demands.symmetry c.args.k in
    let width : c.behind-problem.inside.width ≡ p.posed.width = ap (λ f. f.width) (c.behind-problem.view_is ∙ c.posed.ensures.value) in
    pushed_joined _ _ (pair_clauses p c.args.t) (pair_at motion p.posed.height p.posed.width c.args.y) c.loop-x.x p.posed.width c.loop-x.invariant
    (omega (arith, width, c.loop-x-test.false, c.loop-x.auto.x-end))
