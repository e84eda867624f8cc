use Rattle.std.proofs.Common.{◌≢◌, ℕ, ◌<◌, get_or}
use Rattle.lls_store.specs.declared.flat.Head.{Head}
use Rattle.lls_store.proofs.flat.place_of.Given as goal

abbrev pub invariant-loop-k : goal.invariant-loop-k
invariant-loop-k l = (j : ℕ) (d : Head) → j < l.k → (get_or l.heads j d).number ≢ l.number
