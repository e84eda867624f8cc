use Rattle.std.proofs.Common.{◌≡◌}
use Rattle.std.specs.List.{filter, range_with_len}
use Rattle.lls_encode.specs.Images.{is_changed}
use Rattle.lls_encode.proofs.images.changed_cells.Given as goal

-- those of the cells so far
abbrev pub invariant-loop-k : goal.invariant-loop-k
invariant-loop-k l = l.cells.items ≡ filter (is_changed l.problem l.motion) (range_with_len 0 l.k)
