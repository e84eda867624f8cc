use Rattle.std.proofs.Common.{◌≡◌, ◌++◌}
use Rattle.std.specs.List.{flat_map, range_with_len}
use Rattle.lls_open.specs.Targets.{place_targets}
use Rattle.lls_open.proofs.target.push_line.Given as goal

-- the places of the columns so far
abbrev pub invariant-loop-k : goal.invariant-loop-k
invariant-loop-k l = l.targets.items ≡ l.fn.targets.items ++ flat_map (place_targets l.problem l.t l.line) (range_with_len l.first l.k)
