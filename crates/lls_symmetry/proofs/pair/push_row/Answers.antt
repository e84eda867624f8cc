use Rattle.lls_symmetry.specs.Pairs.{pair_at}
use Rattle.lls_symmetry.proofs.Joined.{joined_more}
use Rattle.lls_symmetry.proofs.pair.push_row.Goals as goal

pub loop-x-preserved : goal.loop-x-preserved
loop-x-preserved c =
    joined_more (pair_at c.args.motion c.args.height c.args.width c.args.y) _ _ _ c.loop-x.x c.loop-x.invariant c.in_ok-push_cell.ensures
