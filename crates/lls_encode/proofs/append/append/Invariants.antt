use Rattle.std.proofs.Common.{◌≡◌, ◌+◌, ◌-◌, ◌++◌, take}
use Rattle.lls_encode.proofs.append.append.Given as goal

-- the clauses so far, over all variables
abbrev pub invariant-loop-k : goal.invariant-loop-k
invariant-loop-k l = l.formula ≡ record { vars = l.fn.formula.vars + (l.more.vars - l.fn.formula.vars); clauses = l.fn.formula.clauses ++ take l.k l.more.clauses }
