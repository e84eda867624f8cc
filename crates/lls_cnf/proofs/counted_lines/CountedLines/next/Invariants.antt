use Rattle.std.proofs.Common.{◌≡◌, ◌+◌, ◌<◌, ◌^◌, length}
use Rattle.lls_cnf.specs.Dimacs.{counted_from}
use Rattle.lls_cnf.proofs.counted_lines.CountedLines.next.Given as goal

abbrev pub invariant-loop-text : goal.invariant-loop-text
invariant-loop-text l = record {
  room : l.self-inside.next + length l.self-inside.lines < 2 ^ 64;
  same : counted_from l.self-inside.next l.self-inside.lines ≡ counted_from l.initial.self-inside.next l.initial.self-inside.lines;
}

abbrev pub decreases-loop-text : goal.decreases-loop-text
decreases-loop-text l = length l.self-inside.lines
