use Rattle.lls_symmetry.specs.Moved.{leaving}
use Rattle.lls_symmetry.proofs.Joined.{mapped_more}
use Rattle.lls_symmetry.proofs.moved.push_row_leaving.Goals as goal

pub loop-x-preserved : goal.loop-x-preserved
loop-x-preserved c =
    mapped_more (leaving c.args.course c.args.y) _ _ _ c.leaving.result c.loop-x.x c.loop-x.invariant c.leaving.ensures c.in_ok-push.ensures.items
