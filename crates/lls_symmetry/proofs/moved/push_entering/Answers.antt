use Rattle.lls_symmetry.specs.Moved.{row_entering}
use Rattle.lls_symmetry.proofs.Joined.{joined_more}
use Rattle.lls_symmetry.proofs.moved.push_entering.Goals as goal

pub loop-y-preserved : goal.loop-y-preserved
loop-y-preserved c =
    joined_more (row_entering c.args.course c.args.height c.args.width) _ _ _ c.loop-y.y c.loop-y.invariant c.in_ok-push_row_entering.ensures
