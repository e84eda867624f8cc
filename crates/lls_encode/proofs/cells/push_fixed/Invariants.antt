use Rattle.std.proofs.Common.{◌≡◌}
use Rattle.std.specs.List.{flat_map, range_with_len}
use Rattle.lls_problem.specs.Solution.{cell_number}
use Rattle.lls_encode.specs.Formula.{fixed_clauses}
use Rattle.lls_transition.specs.Clause.{with_clauses}
use Rattle.lls_encode.proofs.cells.push_fixed.Given as goal

-- the clauses of the cells so far
abbrev pub invariant-loop-k : goal.invariant-loop-k
invariant-loop-k l = l.formula ≡ with_clauses l.fn.formula (flat_map (λ k. fixed_clauses k (cell_number l.cells k).kind) (range_with_len 0 l.k))
