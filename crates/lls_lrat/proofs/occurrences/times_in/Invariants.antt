use Rattle.std.proofs.Common.{◌≡◌, ◌≤◌, take}
use Rattle.lls_lrat.specs.Occurring.{times_in}
use Rattle.lls_lrat.proofs.occurrences.times_in.Given as goal

abbrev pub invariant-loop-other : goal.invariant-loop-other
invariant-loop-other l = (l.times ≡ times_in l.lit (take l.other-index l.clause)) × (l.times ≤ l.other-index)
