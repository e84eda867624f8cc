use Rattle.std.proofs.Common.{◌≡◌}
use Rattle.std.specs.List.{flat_map, range_with_len}
use Rattle.lls_symmetry.specs.Symmetry.{generator_at}
use Rattle.lls_transition.specs.Clause.{with_clauses}
use Rattle.lls_encode.specs.Formula.{motion_clauses}
use Rattle.lls_encode.proofs.symmetry.push_symmetry.Given as goal

-- the generators so far
abbrev pub invariant-loop-k : goal.invariant-loop-k
invariant-loop-k l =
    l.formula ≡ with_clauses l.fn.formula (flat_map (λ k. motion_clauses l.problem (generator_at l.problem.demands.symmetry k)) (range_with_len 0 l.k))
