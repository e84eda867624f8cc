use Rattle.std.proofs.Common.{◌≡◌, ◌∙◌, ap, arith}
use Rattle.lls_symmetry.specs.Moved.{leaving}
use Rattle.lls_transition.specs.Clause.{with_clauses}
use Rattle.lls_encode.specs.Formula.{moved_clauses}
use Rattle.lls_encode.proofs.Steps.{pushed_more, pushed_mapped, HasRoom-after}
use Rattle.lls_encode.proofs.Bounds.{length-same_places}
use Rattle.lls_encode.proofs.period.push_row_leaving.Goals as goal

pub push_moved-requires-clause-room : goal.push_moved-requires-clause-room
push_moved-requires-clause-room c =
    let p = c.args.problem.now in
    HasRoom-after _ _ (λ x. moved_clauses p (leaving c.args.course c.args.y x)) 2 0 c.loop-x.x 64 128
    (λ x. length-same_places _ _) c.loop-x.invariant (omega (arith, c.loop-x-test.true, c.posed.ensures.kept.width)) (omega arith) c.requires.room

pub loop-x-preserved : goal.loop-x-preserved
loop-x-preserved c =
    let p = c.args.problem.now in
    pushed_more _ _ _ (λ x. moved_clauses p (leaving c.args.course c.args.y x)) 0 c.loop-x.x c.loop-x.x c.loop-x.invariant
    (c.in_ok-push_moved.ensures ∙ ap (λ pair. with_clauses c.loop-x.formula (moved_clauses p pair)) c.leaving.ensures) (omega arith)

pub returns : goal.returns
returns c =
    let p = c.args.problem.now in
    let size : c.behind-problem.inside.width ≡ p.posed.width = ap (λ f. f.width) (c.behind-problem.view_is ∙ c.posed.ensures.value) in
    pushed_mapped _ _ (moved_clauses p) (leaving c.args.course c.args.y) c.loop-x.x p.posed.width c.loop-x.invariant
    (omega (arith, size, c.loop-x-test.false, c.loop-x.auto.x-end))
