use Rattle.std.proofs.Common.{◌≡◌}
use Rattle.std.specs.Prelude.{length}
use Rattle.lls_arena.proofs.Told.{IsTelling}
use Rattle.lls_arena.proofs.arena.tell_where_to.Given as goal

abbrev pub invariant-loop-k : goal.invariant-loop-k
invariant-loop-k l = IsTelling l.initial.edges.pairs l.edges.pairs l.lives l.k l.before × (length l.edges.pairs ≡ length l.initial.edges.pairs) × (l.edges.room ≡ l.initial.edges.room)
