use Rattle.std.proofs.Common.{◌≡◌, take}
use Rattle.lls_prooflog.specs.UnitWalk.{remaining}
use Rattle.lls_lrat.specs.Left.{left_in, IsOneWithin}
use Rattle.lls_lrat.proofs.Lefts.{left_of}
use Rattle.lls_lrat.proofs.walk.unmarked.Given as goal

abbrev pub invariant-loop-lit : goal.invariant-loop-lit
invariant-loop-lit l =
    (left_in (remaining l.assumed.lits (take l.lit-index l.clause)) ≡ left_of l.found) × IsOneWithin l.assumed.vars (left_of l.found)
