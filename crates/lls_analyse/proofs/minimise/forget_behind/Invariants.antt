use Rattle.std.proofs.Common.{◌≡◌, ◌≤◌, length}
use Rattle.lls_analyse.specs.Visited.{VisitedState}
use Rattle.lls_analyse.specs.Minimised.{IsGrown}
use Rattle.lls_analyse.proofs.minimise.forget_behind.Given as goal

abbrev pub invariant-loop-visited : goal.invariant-loop-visited
invariant-loop-visited l =
    (l.keep ≤ length l.visited.lits) × ((s : VisitedState) → IsGrown l.trail.entries s l.initial.visited → length s.lits ≡ l.keep → IsGrown l.trail.entries s l.visited)

abbrev pub decreases-loop-visited : goal.decreases-loop-visited
decreases-loop-visited l = length l.visited.lits
