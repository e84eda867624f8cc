use Rattle.std.proofs.Common.{◌≡◌, ◌≤◌, [], drop, get_or, reverse}
use Rattle.lls_grid.specs.History.{rows_at, width_of}
use Rattle.lls_rle.specs.Printing.{before_row}
use Rattle.lls_rle.proofs.print.push_row.Given as goal

abbrev pub invariant-loop-x : goal.invariant-loop-x
invariant-loop-x l = (l.x ≤ width_of l.history) × (reverse l.stack.items ≡ before_row (drop l.x (get_or (rows_at l.history l.t) l.y [])) (reverse l.initial.stack.items))

abbrev pub decreases-loop-x : goal.decreases-loop-x
decreases-loop-x l = l.x
