use Rattle.std.proofs.Common.{◌≡◌, take}
use Rattle.std.specs.List.{flat_map}
use Rattle.lls_transition.specs.Clause.{with_clauses}
use Rattle.lls_open.specs.Formula.{target_clauses}
use Rattle.lls_open.proofs.transition.push_open.Given as goal

-- the clauses of the places so far
abbrev pub invariant-loop-k : goal.invariant-loop-k
invariant-loop-k l = l.formula ≡ with_clauses l.fn.formula (flat_map (target_clauses l.problem l.form l.classes) (take l.k l.targets.items))
