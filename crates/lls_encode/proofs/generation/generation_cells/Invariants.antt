use Rattle.std.proofs.Common.{◌≡◌, map}
use Rattle.std.specs.List.{range_with_len}
use Rattle.lls_encode.specs.Formula.{cell_of_generation}
use Rattle.lls_encode.proofs.generation.generation_cells.Given as goal

-- the literals of the cells so far
abbrev pub invariant-loop-k : goal.invariant-loop-k
invariant-loop-k l = l.cells.items ≡ map (cell_of_generation l.problem l.t) (range_with_len 0 l.k)
