use Rattle.std.proofs.Common.{◌≡◌, map, take}
use Rattle.lls_words.specs.Seen.{seen_operand}
use Rattle.lls_words.proofs.parser.read_operands.Given as goal

abbrev pub invariant-loop-at : goal.invariant-loop-at
invariant-loop-at l = map seen_operand l.read.items ≡ map seen_operand (take l.at l.operands)
