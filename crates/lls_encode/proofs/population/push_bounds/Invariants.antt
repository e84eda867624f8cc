use Rattle.std.proofs.Common.{◌≡◌, take}
use Rattle.lls_problem.specs.Bounds.{all_counter_vars}
use Rattle.lls_encode.specs.Formula.{generation_size, bounds_clauses}
use Rattle.lls_encode.specs.Room.{with_more}
use Rattle.lls_encode.proofs.population.push_bounds.Given as goal

-- the clauses of the bounds so far, and their variables
abbrev pub invariant-loop-bound : goal.invariant-loop-bound
invariant-loop-bound l =
    l.formula ≡ with_more l.fn.formula (all_counter_vars (generation_size l.problem) (take l.bound-index l.bound-items))
    (bounds_clauses l.problem l.fn.formula.vars (take l.bound-index l.bound-items))
