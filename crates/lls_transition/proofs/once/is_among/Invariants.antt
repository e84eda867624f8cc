use Rattle.std.proofs.Common.{◌≡◌, ◌≤◌, ◌-◌, false, take, drop}
use Rattle.std.specs.List.{list_any}
use Rattle.std.specs.Ordering.{int_eq}
use Rattle.std.specs.Cmp.Lexicographic.{pointwise}
use Rattle.lls_transition.proofs.once.is_among.Given as goal

-- the clause isn't among those looked at
abbrev pub invariant-loop-k : goal.invariant-loop-k
invariant-loop-k l = (l.first ≤ l.k) × (list_any (pointwise int_eq l.lits) (take (l.k - l.first) (drop l.first l.formula.clauses)) ≡ false)
