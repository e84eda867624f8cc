use Rattle.std.proofs.Common.{◌≡◌, ◌∙◌, ap, arith}
use Rattle.std.specs.List.{flat_map}
use Rattle.lls_symmetry.specs.Moved.{row_entering}
use Rattle.lls_encode.specs.Formula.{moved_clauses}
use Rattle.lls_encode.proofs.Steps.{pushed_more, pushed_joined, HasRoom-after}
use Rattle.lls_encode.proofs.Bounds.{length-row_entering}
use Rattle.lls_encode.proofs.period.push_entering.Goals as goal

pub push_row_entering-requires-clause-room : goal.push_row_entering-requires-clause-room
push_row_entering-requires-clause-room c =
    let p = c.args.problem.now in
    HasRoom-after _ _ (λ y. flat_map (moved_clauses p) (row_entering c.args.course p.posed.height p.posed.width y)) 128 0 c.loop-y.y 64 8192
    (λ y. length-row_entering p c.args.course p.posed.height p.posed.width y c.posed.ensures.kept.width.1) c.loop-y.invariant (omega (arith, c.loop-y-test.true, c.posed.ensures.kept.height)) (omega arith) c.requires.room

pub loop-y-preserved : goal.loop-y-preserved
loop-y-preserved c =
    let p = c.args.problem.now in
    pushed_more _ _ _ (λ y. flat_map (moved_clauses p) (row_entering c.args.course p.posed.height p.posed.width y)) 0 c.loop-y.y c.loop-y.y c.loop-y.invariant c.in_ok-push_row_entering.ensures (omega arith)

pub returns : goal.returns
returns c =
    let p = c.args.problem.now in
    let size : c.behind-problem.inside.height ≡ p.posed.height = ap (λ f. f.height) (c.behind-problem.view_is ∙ c.posed.ensures.value) in
    pushed_joined _ _ (moved_clauses p) (row_entering c.args.course p.posed.height p.posed.width) c.loop-y.y p.posed.height c.loop-y.invariant
    (omega (arith, size, c.loop-y-test.false, c.loop-y.auto.y-end))
