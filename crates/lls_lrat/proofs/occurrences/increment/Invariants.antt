use Rattle.std.proofs.Common.{◌≡◌, ℕ, ◌+◌, ◌-◌, length}
use Rattle.lls_lrat.specs.Occurring.{count_at}
use Rattle.lls_lrat.proofs.occurrences.increment.Given as goal

abbrev pub invariant-loop-counts : goal.invariant-loop-counts
invariant-loop-counts l = (i : ℕ) → count_at l.counts.items i ≡ count_at l.initial.counts.items i

abbrev pub decreases-loop-counts : goal.decreases-loop-counts
decreases-loop-counts l = l.place + 1 - length l.counts.items
