-- Those from this number on are listed.
use Rattle.lls_watch.specs.Anew.{AreListedFrom, CanBeListed, IsRelinked}
use Rattle.std.proofs.Common.{◌≤◌, length}
use Rattle.lls_watch.proofs.watches.Watches.list_all.Given as goal

abbrev pub invariant-loop-c : goal.invariant-loop-c
invariant-loop-c l = (l.c ≤ length l.self.arena.heads) × (IsRelinked l.fn.self l.self × (CanBeListed l.self × AreListedFrom l.self l.c))

abbrev pub decreases-loop-c : goal.decreases-loop-c
decreases-loop-c l = l.c
