use Rattle.std.proofs.Common.{arith}
use Rattle.lls_problem.specs.Solution.{cell_number}
use Rattle.lls_encode.specs.Formula.{fixed_clauses}
use Rattle.lls_encode.proofs.Steps.{pushed_more, HasRoom-after}
use Rattle.lls_encode.proofs.Bounds.{length-fixed_clauses}
use Rattle.lls_encode.proofs.cells.push_fixed.Goals as goal

pub push_fixed_cell-requires-clause-room : goal.push_fixed_cell-requires-clause-room
push_fixed_cell-requires-clause-room c =
    HasRoom-after _ _ (λ k. fixed_clauses k (cell_number c.args.cells.now k).kind) 1 0 c.loop-k.k _ _ (λ k. length-fixed_clauses k _) c.loop-k.invariant c.loop-k-test.true (omega arith) c.requires.room

pub loop-k-preserved : goal.loop-k-preserved
loop-k-preserved c =
    pushed_more _ _ _ (λ k. fixed_clauses k (cell_number c.args.cells.now k).kind) 0 c.loop-k.k c.loop-k.k c.loop-k.invariant c.in_ok-push_fixed_cell.ensures (omega arith)
