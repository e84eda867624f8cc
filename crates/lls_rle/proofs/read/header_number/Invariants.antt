use Rattle.std.proofs.Common.{length}
use Rattle.lls_rle.proofs.Lines.{IsBefore}
use Rattle.lls_rle.proofs.read.header_number.Given as goal

abbrev pub invariant-loop-line : goal.invariant-loop-line
invariant-loop-line l = IsBefore l.initial.lines l.number l.lines

abbrev pub decreases-loop-line : goal.decreases-loop-line
decreases-loop-line l = length l.lines
