use Rattle.std.proofs.Common.{◌<◌, ℕ}
use Rattle.lls_problem.specs.Transitions.{KeepsRule}
use Rattle.lls_problem.proofs.transitions.first_in_line.Given as goal

-- the columns so far keep the rule
abbrev pub invariant-loop-column : goal.invariant-loop-column
invariant-loop-column l = (k : ℕ) → k < l.column → KeepsRule l.problem l.history l.t l.line k
