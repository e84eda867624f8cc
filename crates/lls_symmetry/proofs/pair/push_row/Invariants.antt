use Rattle.std.proofs.Common.{◌≡◌, ◌++◌}
use Rattle.std.specs.List.{flat_map, range_with_len}
use Rattle.lls_symmetry.specs.Pairs.{pair_at}
use Rattle.lls_symmetry.proofs.pair.push_row.Given as goal

-- the pairs of the cells so far
abbrev pub invariant-loop-x : goal.invariant-loop-x
invariant-loop-x l = l.pairs.items ≡ l.fn.pairs.items ++ flat_map (pair_at l.motion l.height l.width l.y) (range_with_len 0 l.x)
