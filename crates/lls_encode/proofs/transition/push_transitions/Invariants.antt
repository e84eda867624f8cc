use Rattle.std.proofs.Common.{◌≡◌}
use Rattle.std.specs.List.{flat_map, range_with_len}
use Rattle.lls_encode.specs.Formula.{generation_clauses}
use Rattle.lls_transition.specs.Clause.{with_clauses}
use Rattle.lls_encode.proofs.transition.push_transitions.Given as goal

-- the transitions into the generations so far
abbrev pub invariant-loop-t : goal.invariant-loop-t
invariant-loop-t l = l.formula ≡ with_clauses l.fn.formula (flat_map (generation_clauses l.problem l.form l.cubes.items) (range_with_len 0 l.t))
