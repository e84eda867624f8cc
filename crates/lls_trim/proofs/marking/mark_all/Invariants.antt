use Rattle.std.proofs.Common.{◌≡◌, ℕ, ◌||◌, false, get_or, take}
use Rattle.lls_trim.specs.Marking.{names_one}
use Rattle.lls_trim.proofs.marking.mark_all.Given as goal

abbrev pub invariant-loop-source : goal.invariant-loop-source
invariant-loop-source l = (j : ℕ) → get_or l.marks j false ≡ (get_or l.initial.marks j false || names_one j (take l.source-index l.sources))
