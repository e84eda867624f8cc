use Rattle.std.proofs.Common.{◌≡◌, ℕ, ◌+◌, ◌-◌, length}
use Rattle.lls_lrat.specs.Placed.{slot}
use Rattle.lls_lrat.proofs.places.set_entry.Given as goal

abbrev pub invariant-loop-table : goal.invariant-loop-table
invariant-loop-table l = (j : ℕ) → slot l.table.items j ≡ slot l.initial.table.items j

abbrev pub decreases-loop-table : goal.decreases-loop-table
decreases-loop-table l = l.k + 1 - length l.table.items
