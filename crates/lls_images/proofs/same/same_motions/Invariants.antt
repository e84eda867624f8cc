use Rattle.std.proofs.Common.{◌≡◌, take}
use Rattle.std.specs.List.{filter}
use Rattle.lls_images.specs.Same.{tells_apart, motions}
use Rattle.lls_images.proofs.same.same_motions.Given as goal

-- those of the motions so far
abbrev pub invariant-loop-motion : goal.invariant-loop-motion
invariant-loop-motion l = l.motions.items ≡ filter (tells_apart l.problem) (take l.motion-index motions)
