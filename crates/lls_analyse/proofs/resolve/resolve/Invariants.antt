use Rattle.std.specs.Prelude.{vec_capacity}
use Rattle.lls_analyse.proofs.Traces.{IsTracing}
use Rattle.lls_analyse.proofs.resolve.resolve.Given as goal

abbrev pub invariant-loop-place : goal.invariant-loop-place
invariant-loop-place g l =
    IsTracing (g.S.Store.state l.store).live l.trail l.conflict l.left l.visited l.place l.resolved.items (vec_capacity l.resolved) (vec_capacity l.initial.resolved)

abbrev pub decreases-loop-place : goal.decreases-loop-place
decreases-loop-place g l = l.place
