use Rattle.std.proofs.Common.{arith}
use Rattle.lls_encode.specs.Formula.{return_clauses}
use Rattle.lls_encode.proofs.Steps.{pushed_more, HasRoom-after}
use Rattle.lls_encode.proofs.Bounds.{length-return_clauses}
use Rattle.lls_encode.proofs.period.push_returns.Goals as goal

pub push_return-requires-clause-room : goal.push_return-requires-clause-room
push_return-requires-clause-room c =
    let p = c.args.problem.now in
    HasRoom-after _ _ (return_clauses p c.args.period) 16385 0 c.loop-t.t 63 1032255 (length-return_clauses p c.posed.ensures.kept c.args.period) c.loop-t.invariant
    (omega (arith, c.loop-t-test.true, c.posed.ensures.kept.generations, c.requires.period.length)) (omega arith) c.requires.room

pub loop-t-preserved : goal.loop-t-preserved
loop-t-preserved c =
    let p = c.args.problem.now in
    pushed_more _ _ _ (return_clauses p c.args.period) 0 c.loop-t.t c.loop-t.t c.loop-t.invariant c.in_ok-push_return.ensures (omega arith)
