use Rattle.std.proofs.Common.{arith}
use Rattle.lls_symmetry.specs.Symmetry.{generator_at}
use Rattle.lls_encode.specs.Formula.{motion_clauses}
use Rattle.lls_encode.proofs.Steps.{HasRoom-after}
use Rattle.lls_encode.proofs.Bounds.{few_generators, length-motion_clauses}
use Rattle.lls_encode.proofs.symmetry.push_symmetry.Goals as goal

pub push_generator-requires-clause-room : goal.push_generator-requires-clause-room
push_generator-requires-clause-room c =
    let p = c.args.problem.now in
    HasRoom-after _ _ (λ k. motion_clauses p (generator_at p.demands.symmetry k)) 524288 0 c.loop-k.k 2 1048576 (λ k. length-motion_clauses p c.posed-posed.ensures.kept (generator_at p.demands.symmetry k)) c.loop-k.invariant
    (omega (arith, c.loop-k-test.true, few_generators c.demands.result.now.symmetry)) (omega arith) c.requires.room
