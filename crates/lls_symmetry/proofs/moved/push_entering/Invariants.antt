use Rattle.std.proofs.Common.{◌≡◌, ◌++◌}
use Rattle.std.specs.List.{flat_map, range_with_len}
use Rattle.lls_symmetry.specs.Moved.{row_entering}
use Rattle.lls_symmetry.proofs.moved.push_entering.Given as goal

-- those of the rows so far
abbrev pub invariant-loop-y : goal.invariant-loop-y
invariant-loop-y l = l.moved.items ≡ l.fn.moved.items ++ flat_map (row_entering l.course l.height l.width) (range_with_len 0 l.y)
