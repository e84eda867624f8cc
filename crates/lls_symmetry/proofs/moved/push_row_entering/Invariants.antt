use Rattle.std.proofs.Common.{◌≡◌, ◌++◌}
use Rattle.std.specs.List.{flat_map, range_with_len}
use Rattle.lls_symmetry.specs.Moved.{entering}
use Rattle.lls_symmetry.proofs.moved.push_row_entering.Given as goal

-- those of the cells so far
abbrev pub invariant-loop-x : goal.invariant-loop-x
invariant-loop-x l = l.moved.items ≡ l.fn.moved.items ++ flat_map (entering l.course l.height l.width l.y) (range_with_len 0 l.x)
