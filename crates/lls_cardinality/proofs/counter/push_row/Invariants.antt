use Rattle.std.proofs.Common.{◌≡◌}
use Rattle.std.specs.List.{flat_map, range_with_len}
use Rattle.lls_cardinality.specs.Counter.{place_clauses}
use Rattle.lls_cardinality.specs.Pushed.{with_clauses}
use Rattle.lls_cardinality.proofs.counter.push_row.Given as goal

-- the clauses of the variables so far
abbrev pub invariant-loop-j : goal.invariant-loop-j
invariant-loop-j l =
    l.formula ≡ with_clauses l.fn.formula (flat_map (place_clauses l.counter.base l.counter.top l.cell l.k) (range_with_len 0 l.j))
