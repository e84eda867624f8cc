use Rattle.std.proofs.Common.{◌≡◌}
use Rattle.std.specs.List.{flat_map, range_with_len}
use Rattle.lls_cardinality.specs.Counter.{row_clauses}
use Rattle.lls_cardinality.specs.Pushed.{with_clauses}
use Rattle.lls_cardinality.proofs.counter.push_rows.Given as goal

-- the clauses of the rows so far
abbrev pub invariant-loop-k : goal.invariant-loop-k
invariant-loop-k l =
    l.formula ≡ with_clauses l.fn.formula (flat_map (row_clauses l.counter.base l.counter.top l.cells) (range_with_len 0 l.k))
