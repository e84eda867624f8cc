-- The walk is on its way, and its list ends.
use Rattle.std.proofs.Common.{◌≡◌, ◌≤◌, ◌⊎◌, length, Some}
use Rattle.std.specs.Prelude.{slice_get}
use Rattle.lls_store.specs.Trail.{Entry}
use Rattle.lls_arena.specs.Links.{link_in}
use Rattle.lls_watch.specs.Passed.{IsMarked}
use Rattle.lls_watch.specs.Propagating.{IsOnItsWay}
use Rattle.lls_watch.proofs.Followed.{followed}
use Rattle.lls_watch.proofs.walk.visit_list.Given as goal

abbrev pub invariant-loop-c : goal.invariant-loop-c
invariant-loop-c l =
    IsOnItsWay l.fn.watches l.watches l.fn.trail l.trail l.progress l.lit (link_in l.last) (link_in l.next)
    × ((e : Entry) → slice_get l.trail.entries l.progress.passed ≡ Some e → (l.trail.current ≤ e.level) ⊎ IsMarked l.progress.mark l.progress.passed)

abbrev pub decreases-loop-c : goal.decreases-loop-c
decreases-loop-c l = length (followed (length l.watches.arena.heads) l.watches.arena.heads l.lit (link_in l.next))
