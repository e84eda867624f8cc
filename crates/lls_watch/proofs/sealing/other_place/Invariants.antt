-- The literals before this place are the first one.
use Rattle.std.proofs.Common.{◌≡◌, ℕ, ◌<◌}
use Rattle.std.specs.Prelude.{pos, slice_index_or}
use Rattle.lls_watch.proofs.sealing.other_place.Given as goal

abbrev pub invariant-loop-n : goal.invariant-loop-n
invariant-loop-n l = (k : ℕ) → k < l.n → slice_index_or l.lits k (pos 0) ≡ slice_index_or l.lits 0 (pos 0)
