use Rattle.lls_symmetry.specs.Moved.{entering}
use Rattle.lls_symmetry.proofs.Joined.{joined_more}
use Rattle.lls_symmetry.proofs.moved.push_row_entering.Goals as goal

pub loop-x-preserved : goal.loop-x-preserved
loop-x-preserved c =
    joined_more (entering c.args.course c.args.height c.args.width c.args.y) _ _ _ c.loop-x.x c.loop-x.invariant c.in_ok-push_cell_entering.ensures
