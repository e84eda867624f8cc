use Rattle.std.proofs.Common.{◌-◌}
use Rattle.lls_solver.specs.Searching.{additions, IsUnderWay}
use Rattle.lls_solver.proofs.turns.take_turns.Given as goal

abbrev pub invariant-loop-outcome : goal.invariant-loop-outcome
invariant-loop-outcome g l = IsUnderWay l.formula l.budget l.keep_all l.log.steps l.searcher

abbrev pub decreases-loop-outcome : goal.decreases-loop-outcome
decreases-loop-outcome g l = l.budget - additions l.log.steps
