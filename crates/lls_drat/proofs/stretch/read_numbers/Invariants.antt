use Rattle.std.proofs.Common.{◌≡◌, length}
use Rattle.lls_drat.specs.Stretch.{literals}
use Rattle.lls_drat.proofs.FirstNumbers.{with_front}
use Rattle.lls_drat.proofs.stretch.read_numbers.Given as goal

abbrev pub invariant-loop-lit : goal.invariant-loop-lit
invariant-loop-lit l = with_front l.lits.items (literals l.numbers) ≡ literals l.initial.numbers

abbrev pub decreases-loop-lit : goal.decreases-loop-lit
decreases-loop-lit l = length l.numbers
