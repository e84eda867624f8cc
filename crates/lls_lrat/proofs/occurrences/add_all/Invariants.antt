use Rattle.std.proofs.Common.{◌≡◌, ℕ, ◌+◌, take}
use Rattle.lls_lit.specs.Literal.{literal_at}
use Rattle.lls_lrat.specs.Occurring.{count_at, times_in}
use Rattle.lls_lrat.proofs.occurrences.add_all.Given as goal

abbrev pub invariant-loop-lit : goal.invariant-loop-lit
invariant-loop-lit l = (i : ℕ) → count_at l.counts.items i ≡ count_at l.initial.counts.items i + times_in (literal_at i) (take l.lit-index l.lits)
