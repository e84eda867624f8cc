use Rattle.std.proofs.Common.{◌≡◌, ◌-◌, length}
use Rattle.lls_prooflog.specs.Lent.{hints_of}
use Rattle.lls_lrat.proofs.Groups.{Grouped}
use Rattle.lls_lrat.proofs.pivot.check_groups.Given as goal

abbrev pub invariant-loop-place : goal.invariant-loop-place
invariant-loop-place l =
    Grouped l.live.all l.pivot l.initial.assumed.lits (hints_of l.hints) l.from l.ids.items l.place × (l.assumed ≡ l.initial.assumed)

abbrev pub decreases-loop-place : goal.decreases-loop-place
decreases-loop-place l = length (hints_of l.hints) - l.place
