use Rattle.std.proofs.Common.{arith}
use Rattle.lls_text.proofs.LineCounts.{length-lines_of}
use Rattle.lls_cnf.proofs.counted_lines.CountedLines.new.Goals as goal

pub invariant_of-result : goal.invariant_of-result
invariant_of-result c = rw c.new.ensures (omega (arith, length-lines_of c.args.text.now))
