use Rattle.std.proofs.Common.{◌<◌, ℕ}
use Rattle.lls_problem.specs.Transitions.{KeepsGeneration}
use Rattle.lls_problem.proofs.transitions.first_transition.Given as goal

-- the generations so far keep the rule
abbrev pub invariant-loop-t : goal.invariant-loop-t
invariant-loop-t l = (s : ℕ) → s < l.t → 0 < s → KeepsGeneration l.problem l.history s
