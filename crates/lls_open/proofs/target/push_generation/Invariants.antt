use Rattle.std.proofs.Common.{◌≡◌, ◌++◌}
use Rattle.std.specs.List.{flat_map, range_with_len}
use Rattle.lls_open.specs.Targets.{line_targets}
use Rattle.lls_open.proofs.target.push_generation.Given as goal

-- the places of the lines so far
abbrev pub invariant-loop-k : goal.invariant-loop-k
invariant-loop-k l = l.targets.items ≡ l.fn.targets.items ++ flat_map (line_targets l.problem l.t) (range_with_len l.first l.k)
