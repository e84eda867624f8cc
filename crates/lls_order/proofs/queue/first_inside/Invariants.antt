use Rattle.std.proofs.Common.{length}
use Rattle.lls_order.specs.Queue.{IsCursor, rank_of}
use Rattle.lls_order.proofs.queue.first_inside.Given as goal

abbrev pub invariant-loop-number : goal.invariant-loop-number
invariant-loop-number l = IsCursor (rank_of l._activities) (length l._activities) l.inside l.number

abbrev pub decreases-loop-number : goal.decreases-loop-number
decreases-loop-number l = rank_of l._activities l.number
