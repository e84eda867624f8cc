use Rattle.std.proofs.Common.{◌≡◌, ◌≤◌, ◌-◌, true, length, map}
use Rattle.lls_search_file.specs.Seen.{seen_word}
use Rattle.lls_search_file.proofs.Pieces.{read_from, after_front}
use Rattle.lls_search_file.proofs.row.read_cells.Given as goal

abbrev pub invariant-loop-at : goal.invariant-loop-at
invariant-loop-at l = record {
  within : l.at ≤ length l.bytes;
  reads : after_front (map seen_word l.cells.items) (read_from l.line l.after_comma l.at l.bytes) ≡ read_from l.line true 0 l.bytes;
}

abbrev pub decreases-loop-at : goal.decreases-loop-at
decreases-loop-at l = length l.bytes - l.at
