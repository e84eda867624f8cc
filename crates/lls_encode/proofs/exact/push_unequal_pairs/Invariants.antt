use Rattle.std.proofs.Common.{◌≡◌, length, map}
use Rattle.std.specs.List.{flat_map, range_with_len}
use Rattle.lls_encode.specs.Formula.{pair_difference, difference_variable}
use Rattle.lls_encode.specs.Room.{with_more}
use Rattle.lls_encode.proofs.exact.push_unequal_pairs.Given as goal

-- the clauses of the pairs so far, and their variables
abbrev pub invariant-loop-k : goal.invariant-loop-k
invariant-loop-k l = record {
  pushed : l.formula ≡ with_more l.fn.formula (length l.pairs) (flat_map (pair_difference l.problem l.fn.formula.vars l.pairs) (range_with_len 0 l.k));
  some : l.some.items ≡ map (difference_variable l.fn.formula.vars) (range_with_len 0 l.k);
}
