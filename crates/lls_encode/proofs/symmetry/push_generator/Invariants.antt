use Rattle.std.proofs.Common.{◌≡◌}
use Rattle.std.specs.List.{flat_map, range_with_len}
use Rattle.lls_symmetry.specs.Symmetry.{generator_at}
use Rattle.lls_transition.specs.Clause.{with_clauses}
use Rattle.lls_encode.specs.Formula.{symmetric_clauses}
use Rattle.lls_encode.proofs.symmetry.push_generator.Given as goal

-- the generations so far
abbrev pub invariant-loop-t : goal.invariant-loop-t
invariant-loop-t l =
    l.formula ≡ with_clauses l.fn.formula (flat_map (symmetric_clauses l.problem (generator_at l.problem.demands.symmetry l.k)) (range_with_len 0 l.t))
