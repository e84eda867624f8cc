use Rattle.std.proofs.Common.{◌≡◌, ◌++◌, map}
use Rattle.std.specs.List.{range_with_len}
use Rattle.lls_symmetry.specs.Moved.{leaving}
use Rattle.lls_symmetry.proofs.moved.push_row_leaving.Given as goal

-- the cells so far, and where they go
abbrev pub invariant-loop-x : goal.invariant-loop-x
invariant-loop-x l = l.moved.items ≡ l.fn.moved.items ++ map (leaving l.course l.y) (range_with_len 0 l.x)
