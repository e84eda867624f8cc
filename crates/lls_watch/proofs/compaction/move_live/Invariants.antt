-- So far the live ones are moved, and those from this place on stand as at first.
use Rattle.std.proofs.Common.{◌≡◌, ◌≤◌, take, drop}
use Rattle.lls_watch.specs.Renumbered.{moved_among}
use Rattle.lls_watch.proofs.compaction.move_live.Given as goal

abbrev pub invariant-loop-k : goal.invariant-loop-k
invariant-loop-k l = (l.kept ≤ l.k) × ((take l.kept l.numbers ≡ moved_among l.arena.heads (take l.k l.initial.numbers)) × (drop l.k l.numbers ≡ drop l.k l.initial.numbers))
