use Rattle.std.proofs.Common.{arith}
use Rattle.lls_encode.specs.Formula.{generation_clauses}
use Rattle.lls_encode.proofs.Steps.{pushed_more, HasRoom-after}
use Rattle.lls_encode.proofs.Bounds.{length-generation_clauses}
use Rattle.lls_encode.proofs.transition.push_transitions.Goals as goal

pub push_generation-requires-clause-room : goal.push_generation-requires-clause-room
push_generation-requires-clause-room c =
    HasRoom-after _ _ (generation_clauses c.args.problem.now c.args.form c.in_ok-cubes.cubes.items) 2230272 0 c.loop-t.t 63 140507136 (λ t. length-generation_clauses c.args.problem.now c.args.form c.in_ok-cubes.cubes.items c.in_ok-cubes.ensures.few t c.posed.ensures.kept.width.1 c.posed.ensures.kept.height.1) c.loop-t.invariant (omega (arith, c.loop-t-test.true, c.behind-problem.invariant.generations)) (omega arith) c.requires.room

pub loop-t-preserved : goal.loop-t-preserved
loop-t-preserved c =
    pushed_more _ _ _ (generation_clauses c.args.problem.now c.args.form c.in_ok-cubes.cubes.items) 0 c.loop-t.t c.loop-t.t c.loop-t.invariant
    (rw c.deref.ensures.value at c.in_ok-push_generation.ensures) (omega arith)
