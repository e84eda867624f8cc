use Rattle.std.proofs.Common.{◌≡◌}
use Rattle.std.specs.List.{flat_map, range_with_len}
use Rattle.lls_transition.specs.Clause.{with_clauses}
use Rattle.lls_encode.specs.Formula.{return_clauses}
use Rattle.lls_encode.proofs.period.push_returns.Given as goal

-- the generations so far
abbrev pub invariant-loop-t : goal.invariant-loop-t
invariant-loop-t l = l.formula ≡ with_clauses l.fn.formula (flat_map (return_clauses l.problem l.period) (range_with_len 0 l.t))
