use Rattle.std.proofs.Common.{◌≡◌, map, take}
use Rattle.lls_encode.specs.Formula.{unlike}
use Rattle.lls_transition.specs.Clause.{with_clauses}
use Rattle.lls_encode.proofs.listed.push_listed.Given as goal

-- the clauses of the patterns so far
abbrev pub invariant-loop-pattern : goal.invariant-loop-pattern
invariant-loop-pattern l = l.formula ≡ with_clauses l.fn.formula (map (unlike l.problem) (take l.pattern-index l.pattern-items))
