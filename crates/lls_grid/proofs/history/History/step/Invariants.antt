use Rattle.std.proofs.Common.{◌≡◌, ◌+◌, set}
use Rattle.lls_grid.specs.History.{rows_at}
use Rattle.lls_grid.specs.Changes.{successors}
use Rattle.lls_grid.proofs.Steps.{mixed}
use Rattle.lls_grid.proofs.history.History.step.Given as goal

abbrev pub invariant-loop-y : goal.invariant-loop-y
invariant-loop-y l = l.self ≡ set l.fn.self (l.t + 1) (mixed (successors l.rule l.fn.self l.t) (rows_at l.fn.self (l.t + 1)) l.y)
