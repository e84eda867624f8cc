use Rattle.std.proofs.Common.{◌≡◌, pos, ◌-ℤ◌}
use Rattle.std.specs.List.{flat_map, range_with_len}
use Rattle.lls_encode.specs.Formula.{place_clauses}
use Rattle.lls_transition.specs.Clause.{with_clauses}
use Rattle.lls_encode.proofs.transition.push_line.Given as goal

-- the transitions into the columns so far
abbrev pub invariant-loop-column : goal.invariant-loop-column
invariant-loop-column l =
    l.formula ≡ with_clauses l.fn.formula (flat_map (λ k. place_clauses l.problem l.form l.cubes l.t (pos l.line -ℤ pos 1) (pos k -ℤ pos 1)) (range_with_len l.first l.column))
