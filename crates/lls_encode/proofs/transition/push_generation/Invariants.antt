use Rattle.std.proofs.Common.{◌≡◌, pos, ◌-ℤ◌}
use Rattle.std.specs.List.{flat_map, range_with_len}
use Rattle.lls_encode.specs.Formula.{line_clauses}
use Rattle.lls_transition.specs.Clause.{with_clauses}
use Rattle.lls_encode.proofs.transition.push_generation.Given as goal

-- the transitions into the lines so far
abbrev pub invariant-loop-line : goal.invariant-loop-line
invariant-loop-line l = l.formula ≡ with_clauses l.fn.formula (flat_map (λ k. line_clauses l.problem l.form l.cubes l.t (pos k -ℤ pos 1)) (range_with_len l.first l.line))
