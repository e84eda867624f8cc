use Rattle.std.proofs.Common.{◌≡◌, ◌∙◌, ap, arith}
use Rattle.std.specs.List.{flat_map}
use Rattle.lls_symmetry.specs.Moved.{entering}
use Rattle.lls_encode.specs.Formula.{moved_clauses}
use Rattle.lls_encode.proofs.Steps.{pushed_more, pushed_joined, HasRoom-after}
use Rattle.lls_encode.proofs.Bounds.{length-entering}
use Rattle.lls_encode.proofs.period.push_row_entering.Goals as goal

pub push_cell_entering-requires-clause-room : goal.push_cell_entering-requires-clause-room
push_cell_entering-requires-clause-room c =
    let p = c.args.problem.now in
    HasRoom-after _ _ (λ x. flat_map (moved_clauses p) (entering c.args.course p.posed.height p.posed.width c.args.y x)) 2 0 c.loop-x.x 64 128
    (length-entering p c.args.course p.posed.height p.posed.width c.args.y) c.loop-x.invariant (omega (arith, c.loop-x-test.true, c.posed.ensures.kept.width)) (omega arith) c.requires.room

pub loop-x-preserved : goal.loop-x-preserved
loop-x-preserved c =
    let p = c.args.problem.now in
    pushed_more _ _ _ (λ x. flat_map (moved_clauses p) (entering c.args.course p.posed.height p.posed.width c.args.y x)) 0 c.loop-x.x c.loop-x.x c.loop-x.invariant c.in_ok-push_cell_entering.ensures (omega arith)

pub returns : goal.returns
returns c =
    let p = c.args.problem.now in
    let size : c.behind-problem.inside.width ≡ p.posed.width = ap (λ f. f.width) (c.behind-problem.view_is ∙ c.posed.ensures.value) in
    pushed_joined _ _ (moved_clauses p) (entering c.args.course p.posed.height p.posed.width c.args.y) c.loop-x.x p.posed.width c.loop-x.invariant
    (omega (arith, size, c.loop-x-test.false, c.loop-x.auto.x-end))
