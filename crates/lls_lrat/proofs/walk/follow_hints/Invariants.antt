use Rattle.std.proofs.Common.{◌≡◌}
use Rattle.lls_prooflog.specs.Lent.{hints_of}
use Rattle.lls_lrat.proofs.Walked.{Follows}
use Rattle.lls_lrat.proofs.walk.follow_hints.Given as goal

abbrev pub invariant-loop-k : goal.invariant-loop-k
invariant-loop-k l = (l.assumed.vars ≡ l.initial.assumed.vars) × Follows l.live.all l.initial.assumed.lits (hints_of l.hints) l.from l.assumed.lits l.k
