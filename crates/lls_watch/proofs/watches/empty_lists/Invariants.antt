-- Those before this place begin with no clause.
use Rattle.std.proofs.Common.{◌≡◌, ◌++◌, map, take, drop}
use Rattle.lls_watch.proofs.watches.empty_lists.Given as goal

abbrev pub invariant-loop-start : goal.invariant-loop-start
invariant-loop-start l = l.first ≡ map (λ _. l.nowhere) (take l.start-index l.initial.first) ++ drop l.start-index l.initial.first
