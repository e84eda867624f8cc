use Rattle.std.proofs.Common.{◌≡◌, ◌+◌, [], get_or}
use Rattle.lls_grid.specs.History.{rows_at}
use Rattle.lls_grid.specs.Changes.{with_row, successor_row}
use Rattle.lls_grid.proofs.Steps.{mixed}
use Rattle.lls_grid.proofs.history.History.step_row.Given as goal

abbrev pub invariant-loop-x : goal.invariant-loop-x
invariant-loop-x l =
    l.self ≡ with_row l.fn.self (l.t + 1) l.y (mixed (successor_row l.rule l.fn.self l.t l.y) (get_or (rows_at l.fn.self (l.t + 1)) l.y []) l.x)
