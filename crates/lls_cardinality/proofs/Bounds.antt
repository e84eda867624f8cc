-- How many clauses a counter's variable and row have at most.
use Rattle.std.proofs.Common.{◌≤◌, ℕ, zero, suc, ◌*◌, ℤ, List, length, get_or, arith}
use Rattle.std.specs.Prelude.{pos}
use Rattle.lls_cardinality.specs.Counter.{place_clauses, row_clauses}
use Rattle.lls_cardinality.proofs.Steps.{length-flat_map_most}

pub length-place_clauses : (base top : ℕ) (cell : ℤ) (k j : ℕ) → length (place_clauses base top cell k j) ≤ 4
length-place_clauses base top cell zero zero = omega arith
length-place_clauses base top cell zero (suc j) = omega arith
length-place_clauses base top cell (suc k) zero = omega arith
length-place_clauses base top cell (suc k) (suc j) = omega arith

pub length-row_clauses : (base top : ℕ) (cells : List ℤ) (k : ℕ) → length (row_clauses base top cells k) ≤ 4 * top
length-row_clauses base top cells k = length-flat_map_most (place_clauses base top (get_or cells k (pos 0)) k) 4 (length-place_clauses base top (get_or cells k (pos 0)) k) 0 top
