use Rattle.std.proofs.Common.{◌≡◌, ◌++◌, take}
use Rattle.lls_prooflog.specs.Rat.{others}
use Rattle.lls_lrat.proofs.pivot.assume_others.Given as goal

abbrev pub invariant-loop-lit : goal.invariant-loop-lit
invariant-loop-lit l =
    (l.assumed.lits ≡ l.initial.assumed.lits ++ others l.left_out (take l.lit-index l.clause)) × (l.assumed.vars ≡ l.initial.assumed.vars)
