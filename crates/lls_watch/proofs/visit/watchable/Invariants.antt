-- The literals before this place are false, or the other watched one.
use Rattle.std.proofs.Common.{◌≡◌, ℕ, ◌<◌, ◌⊎◌}
use Rattle.std.specs.Prelude.{pos, slice_index_or}
use Rattle.lls_store.specs.Trail.{HasNegated}
use Rattle.lls_watch.proofs.visit.watchable.Given as goal

abbrev pub invariant-loop-n : goal.invariant-loop-n
invariant-loop-n l = (k : ℕ) → 1 < k → k < l.n → HasNegated l.trail.entries (slice_index_or l.lits k (pos 0)) ⊎ (slice_index_or l.lits k (pos 0) ≡ l.other)
