use Rattle.std.proofs.Common.{◌≡◌, take}
use Rattle.lls_lrat.proofs.checker.assume.Given as goal

abbrev pub invariant-loop-lit : goal.invariant-loop-lit
invariant-loop-lit l = (l.assumed.lits ≡ take l.lit-index l.lits) × (l.assumed.vars ≡ l.initial.assumed.vars)
