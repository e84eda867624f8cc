use Rattle.std.proofs.Common.{◌≡◌, ◌++◌, map, drop, string_bytes}
use Rattle.lls_words.specs.Canonical.{canonical_words}
use Rattle.lls_words.specs.Seen.{seen_operand, seen_scan}
use Rattle.lls_words.proofs.canonical.canonical_words.Given as goal

-- the words so far with the operands left are all words
abbrev pub invariant-loop-operand : goal.invariant-loop-operand
invariant-loop-operand l =
    map string_bytes l.words.items ++ map (λ operand. operand.word) (map seen_operand (drop l.operand-index l.operand-items)) ≡ canonical_words l.fn.command (seen_scan l.fn.scan)
