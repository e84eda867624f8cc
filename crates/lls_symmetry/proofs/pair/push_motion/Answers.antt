use Rattle.lls_symmetry.specs.Pairs.{row_pairs}
use Rattle.lls_symmetry.proofs.Joined.{joined_more}
use Rattle.lls_symmetry.proofs.pair.push_motion.Goals as goal

pub loop-y-preserved : goal.loop-y-preserved
loop-y-preserved c =
    joined_more (row_pairs c.args.motion c.args.height c.args.width) _ _ _ c.loop-y.y c.loop-y.invariant c.in_ok-push_row.ensures
