use Rattle.std.proofs.Common.{◌≡◌}
use Rattle.std.specs.List.{flat_map, range_with_len}
use Rattle.lls_symmetry.specs.Symmetry.{generator_at}
use Rattle.lls_symmetry.specs.Pairs.{row_pairs}
use Rattle.lls_transition.specs.Clause.{with_clauses}
use Rattle.lls_encode.specs.Formula.{pair_clauses}
use Rattle.lls_encode.proofs.symmetry.push_generation.Given as goal

-- the rows so far
abbrev pub invariant-loop-y : goal.invariant-loop-y
invariant-loop-y l =
    l.formula ≡ with_clauses l.fn.formula (flat_map (λ y. flat_map (pair_clauses l.problem l.t)
    (row_pairs (generator_at l.problem.demands.symmetry l.k) l.problem.posed.height l.problem.posed.width y)) (range_with_len 0 l.y))
