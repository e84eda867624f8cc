use Rattle.lls_rle.proofs.Lines.{AreTaken}
use Rattle.lls_rle.proofs.reader.Reader.take_lines.Given as goal

abbrev pub invariant-loop-line : goal.invariant-loop-line
invariant-loop-line l = AreTaken l.fn.self l.fn.number l.fn.lines l.self l.number l.line-iterator
