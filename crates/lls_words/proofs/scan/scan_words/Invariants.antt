use Rattle.std.proofs.Common.{◌≡◌, map, string_bytes}
use Rattle.lls_words.specs.Scan.{scan, with_items}
use Rattle.lls_words.specs.Seen.{seen_scan, items_left}
use Rattle.lls_words.proofs.scan.scan_words.Given as goal

-- what the items left make of the operands and options so far is what all make
abbrev pub invariant-loop-item : goal.invariant-loop-item
invariant-loop-item l = with_items l.command (seen_scan l.scan) (items_left l.item-iterator) ≡ scan l.command (map string_bytes l.words)
