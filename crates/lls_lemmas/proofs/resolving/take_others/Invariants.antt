use Rattle.std.proofs.Common.{◌≡◌, take}
use Rattle.lls_prooflog.specs.Rat.{others}
use Rattle.lls_lemmas.proofs.resolving.take_others.Given as goal

abbrev pub invariant-loop-lit : goal.invariant-loop-lit
invariant-loop-lit l = l.taken.items ≡ others l.left_out (take l.lit-index l.clause)
