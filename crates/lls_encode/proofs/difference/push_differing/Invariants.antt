use Rattle.std.proofs.Common.{◌≡◌, map}
use Rattle.std.specs.List.{flat_map, range_with_len}
use Rattle.lls_encode.specs.Formula.{generation_size, cell_difference, difference_variable}
use Rattle.lls_encode.specs.Room.{with_more}
use Rattle.lls_encode.proofs.difference.push_differing.Given as goal

-- the clauses of the cells so far, and their variables
abbrev pub invariant-loop-k : goal.invariant-loop-k
invariant-loop-k l = record {
  pushed : l.formula ≡ with_more l.fn.formula (generation_size l.problem) (flat_map (cell_difference l.problem l.fn.formula.vars (l.first, l.second)) (range_with_len 0 l.k));
  some : l.some.items ≡ map (difference_variable l.fn.formula.vars) (range_with_len 0 l.k);
}
