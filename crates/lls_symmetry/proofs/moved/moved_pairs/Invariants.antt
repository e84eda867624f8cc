use Rattle.std.proofs.Common.{◌≡◌}
use Rattle.std.specs.List.{flat_map, range_with_len}
use Rattle.lls_symmetry.specs.Moved.{course_at, generation_moved}
use Rattle.lls_symmetry.proofs.moved.moved_pairs.Given as goal

-- the pairs of the generations so far
abbrev pub invariant-loop-t : goal.invariant-loop-t
invariant-loop-t l = l.moved.items ≡ flat_map (λ t. generation_moved l.height l.width (course_at l.period l.dx l.dy t)) (range_with_len 0 l.t)
