use Rattle.std.proofs.Common.{◌≡◌, ◌&&◌, ◌<◌, ℕ, false}
use Rattle.lls_open.specs.Classes.{is_of, class_number}
use Rattle.lls_open.specs.Decoding.{class_value}
use Rattle.lls_open.proofs.decoding.is_chosen.Given as goal

-- the classes looked at aren't the neighbourhood's, or their values are false
abbrev pub invariant-loop-k : goal.invariant-loop-k
invariant-loop-k l = (k : ℕ) → k < l.k → (is_of (class_number l.classes k) l.nine && class_value l.problem l.values k) ≡ false
