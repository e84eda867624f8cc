use Rattle.std.proofs.Common.{◌≡◌, length, map, true}
use Rattle.std.specs.List.{range_with_len}
use Rattle.lls_lit.specs.Formula.{is_within}
use Rattle.lls_encode.specs.Formula.{other_cell}
use Rattle.lls_encode.proofs.listed.unlike.Given as goal

-- the literals of the cells so far
abbrev pub invariant-loop-k : goal.invariant-loop-k
invariant-loop-k l = record {
  items : l.clause.items ≡ map (other_cell l.problem l.pattern) (range_with_len 0 l.k);
  within : is_within (length l.problem.posed.cells) l.clause.items ≡ true;
}
