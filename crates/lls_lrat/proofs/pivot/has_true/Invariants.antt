use Rattle.std.proofs.Common.{◌≡◌, false, take}
use Rattle.lls_prooflog.specs.Rat.{others, has_true}
use Rattle.lls_lrat.proofs.pivot.has_true.Given as goal

abbrev pub invariant-loop-lit : goal.invariant-loop-lit
invariant-loop-lit l = has_true l.assumed.lits (others l.left_out (take l.lit-index l.clause)) ≡ false
