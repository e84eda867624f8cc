use Rattle.std.proofs.Common.{◌<◌, ℕ}
use Rattle.lls_problem.specs.Transitions.{KeepsLine}
use Rattle.lls_problem.proofs.transitions.first_in_generation.Given as goal

-- the lines so far keep the rule
abbrev pub invariant-loop-line : goal.invariant-loop-line
invariant-loop-line l = (k : ℕ) → k < l.line → KeepsLine l.problem l.history l.t k
