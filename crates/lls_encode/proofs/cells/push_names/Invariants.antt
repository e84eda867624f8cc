use Rattle.std.proofs.Common.{◌≡◌}
use Rattle.std.specs.List.{flat_map, range_with_len}
use Rattle.lls_encode.specs.Formula.{name_clauses}
use Rattle.lls_encode.specs.Names.{first_literals}
use Rattle.lls_transition.specs.Clause.{with_clauses}
use Rattle.lls_encode.proofs.cells.push_names.Given as goal

-- the clauses of the cells so far, and the first cells of the names among them
abbrev pub invariant-loop-k : goal.invariant-loop-k
invariant-loop-k l = record {
  pushed : l.formula ≡ with_clauses l.fn.formula (flat_map (name_clauses l.cells) (range_with_len 0 l.k));
  firsts : l.firsts.items ≡ first_literals l.cells l.k l.names;
}
