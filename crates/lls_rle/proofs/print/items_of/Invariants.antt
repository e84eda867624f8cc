use Rattle.std.proofs.Common.{◌≡◌, ◌≤◌, drop, reverse}
use Rattle.lls_grid.specs.History.{rows_at, height_of}
use Rattle.lls_rle.specs.Printing.{items_of_rows}
use Rattle.lls_rle.proofs.print.items_of.Given as goal

abbrev pub invariant-loop-y : goal.invariant-loop-y
invariant-loop-y l = (l.y ≤ height_of l.history) × (reverse l.stack.items ≡ items_of_rows (drop l.y (rows_at l.history l.t)))

abbrev pub decreases-loop-y : goal.decreases-loop-y
decreases-loop-y l = l.y
