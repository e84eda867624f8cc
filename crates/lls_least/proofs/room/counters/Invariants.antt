use Rattle.std.proofs.Common.{◌≡◌, take}
use Rattle.lls_problem.specs.Bounds.{all_counter_vars}
use Rattle.lls_least.proofs.room.counters.Given as goal

abbrev pub invariant-loop-bound : goal.invariant-loop-bound
invariant-loop-bound l = l.count ≡ all_counter_vars l.size (take l.bound-index l.bounds)
