use Rattle.std.proofs.Common.{◌≢◌, ℕ, ◌<◌}
use Rattle.lls_base.specs.Files.{name_at}
use Rattle.lls_base.proofs.files.place.Given as goal

abbrev pub invariant-loop-i : goal.invariant-loop-i
invariant-loop-i l = (earlier : ℕ) → earlier < l.i → name_at l.files earlier ≢ l.name
