use Rattle.std.proofs.Common.{◌≡◌, take}
use Rattle.std.specs.List.{flat_map}
use Rattle.lls_symmetry.specs.Pairs.{motion_pairs}
use Rattle.lls_symmetry.proofs.pair.pairs.Given as goal

-- the pairs of the motions so far
abbrev pub invariant-loop-motion : goal.invariant-loop-motion
invariant-loop-motion l = l.pairs.items ≡ flat_map (motion_pairs l.height l.width) (take l.motion-index l.motion-items)
