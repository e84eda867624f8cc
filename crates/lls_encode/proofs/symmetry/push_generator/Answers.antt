use Rattle.std.proofs.Common.{arith}
use Rattle.lls_symmetry.specs.Symmetry.{generator_at}
use Rattle.lls_encode.specs.Formula.{symmetric_clauses}
use Rattle.lls_encode.proofs.Steps.{pushed_more, HasRoom-after}
use Rattle.lls_encode.proofs.Bounds.{length-symmetric_clauses}
use Rattle.lls_encode.proofs.symmetry.push_generator.Goals as goal

pub push_generation-requires-clause-room : goal.push_generation-requires-clause-room
push_generation-requires-clause-room c =
    let p = c.args.problem.now in
    let motion = generator_at p.demands.symmetry c.args.k in
    HasRoom-after _ _ (symmetric_clauses p motion) 8192 0 c.loop-t.t 64 524288 (length-symmetric_clauses p c.posed.ensures.kept motion) c.loop-t.invariant
    (omega (arith, c.loop-t-test.true, c.posed.ensures.kept.generations)) (omega arith) c.requires.room

pub loop-t-preserved : goal.loop-t-preserved
loop-t-preserved c =
    let p = c.args.problem.now in
    pushed_more _ _ _ (symmetric_clauses p (generator_at p.demands.symmetry c.args.k)) 0 c.loop-t.t c.loop-t.t c.loop-t.invariant c.in_ok-push_generation.ensures (omega arith)
