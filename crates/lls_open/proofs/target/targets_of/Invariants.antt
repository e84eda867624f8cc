use Rattle.std.proofs.Common.{◌≡◌}
use Rattle.std.specs.List.{flat_map, range_with_len}
use Rattle.lls_open.specs.Targets.{generation_targets}
use Rattle.lls_open.proofs.target.targets_of.Given as goal

-- the places of the generations so far
abbrev pub invariant-loop-t : goal.invariant-loop-t
invariant-loop-t l = l.targets.items ≡ flat_map (generation_targets l.problem) (range_with_len 0 l.t)
