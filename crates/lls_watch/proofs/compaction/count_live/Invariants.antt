-- So many of those before this place are live.
use Rattle.std.proofs.Common.{◌≡◌, ◌≤◌, take, length}
use Rattle.lls_watch.specs.Renumbered.{live_among}
use Rattle.lls_watch.proofs.compaction.count_live.Given as goal

abbrev pub invariant-loop-number : goal.invariant-loop-number
invariant-loop-number l = (l.count ≤ l.number-index) × (l.count ≡ length (live_among l.arena.heads (take l.number-index l.numbers)))
