use Rattle.lls_symmetry.specs.Moved.{row_leaving}
use Rattle.lls_symmetry.proofs.Joined.{joined_more}
use Rattle.lls_symmetry.proofs.moved.push_leaving.Goals as goal

pub loop-y-preserved : goal.loop-y-preserved
loop-y-preserved c =
    joined_more (row_leaving c.args.course c.args.width) _ _ _ c.loop-y.y c.loop-y.invariant c.in_ok-push_row_leaving.ensures
