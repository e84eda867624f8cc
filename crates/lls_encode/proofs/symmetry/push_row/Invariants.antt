use Rattle.std.proofs.Common.{◌≡◌}
use Rattle.std.specs.List.{flat_map, range_with_len}
use Rattle.lls_symmetry.specs.Symmetry.{generator_at}
use Rattle.lls_symmetry.specs.Pairs.{pair_at}
use Rattle.lls_transition.specs.Clause.{with_clauses}
use Rattle.lls_encode.specs.Formula.{pair_clauses}
use Rattle.lls_encode.proofs.symmetry.push_row.Given as goal

-- the cells so far
abbrev pub invariant-loop-x : goal.invariant-loop-x
invariant-loop-x l =
    l.formula ≡ with_clauses l.fn.formula (flat_map (λ x. flat_map (pair_clauses l.problem l.t)
    (pair_at (generator_at l.problem.demands.symmetry l.k) l.problem.posed.height l.problem.posed.width l.y x)) (range_with_len 0 l.x))
