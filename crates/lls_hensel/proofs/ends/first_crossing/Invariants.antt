use Rattle.std.proofs.Common.{◌≡◌}
use Rattle.lls_hensel.specs.Ends.{first_crossing}
use Rattle.lls_hensel.proofs.Crossings.{crossing_from}
use Rattle.lls_hensel.proofs.ends.first_crossing.Given as goal

-- the least crossing is the least of those that weren't looked at
abbrev pub invariant-loop-nine : goal.invariant-loop-nine
invariant-loop-nine l = first_crossing l.low l.high ≡ crossing_from l.low l.high l.nine
