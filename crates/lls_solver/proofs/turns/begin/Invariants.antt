use Rattle.std.proofs.Common.{◌-◌}
use Rattle.lls_solver.specs.Searching.{additions, IsUnderWay}
use Rattle.lls_solver.proofs.turns.begin.Given as goal

abbrev pub invariant-loop-alloc : goal.invariant-loop-alloc
invariant-loop-alloc g l = IsUnderWay l.formula l.budget l.keep_all l.log.steps l.searcher

abbrev pub decreases-loop-alloc : goal.decreases-loop-alloc
decreases-loop-alloc g l = l.budget - additions l.log.steps
