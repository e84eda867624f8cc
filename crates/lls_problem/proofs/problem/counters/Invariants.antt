use Rattle.std.proofs.Common.{◌≡◌, ◌≤◌, ◌*◌, take}
use Rattle.lls_problem.specs.Bounds.{all_counter_vars}
use Rattle.lls_problem.proofs.problem.counters.Given as goal

-- the variables of the bounds so far, few for each of them
abbrev pub invariant-loop-bound : goal.invariant-loop-bound
invariant-loop-bound l = (l.count ≡ all_counter_vars l.size (take l.bound-index l.bounds)) × (l.count ≤ 67108864 * l.bound-index)
