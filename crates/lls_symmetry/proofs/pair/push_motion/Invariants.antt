use Rattle.std.proofs.Common.{◌≡◌, ◌++◌}
use Rattle.std.specs.List.{flat_map, range_with_len}
use Rattle.lls_symmetry.specs.Pairs.{row_pairs}
use Rattle.lls_symmetry.proofs.pair.push_motion.Given as goal

-- the pairs of the rows so far
abbrev pub invariant-loop-y : goal.invariant-loop-y
invariant-loop-y l = l.pairs.items ≡ l.fn.pairs.items ++ flat_map (row_pairs l.motion l.height l.width) (range_with_len 0 l.y)
