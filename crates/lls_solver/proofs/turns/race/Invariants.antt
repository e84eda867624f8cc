use Rattle.std.proofs.Common.{◌-◌, ◌+◌}
use Rattle.lls_solver.specs.Searching.{additions, IsUnderWay}
use Rattle.lls_solver.proofs.turns.race.Given as goal

abbrev pub invariant-loop-limit : goal.invariant-loop-limit
invariant-loop-limit g l = record {
  first : IsUnderWay l.formula l.budget l.keep_all l.log.steps l.first;
  second : IsUnderWay l.formula l.budget l.keep_all l.other.steps l.second;
}

abbrev pub decreases-loop-limit : goal.decreases-loop-limit
decreases-loop-limit g l = (l.budget - additions l.log.steps) + (l.budget - additions l.other.steps)
