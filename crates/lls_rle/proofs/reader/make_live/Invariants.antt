use Rattle.std.proofs.Common.{◌≡◌, ◌-◌, ℕ, false, get_or}
use Rattle.std.specs.Prelude.{◌||◌}
use Rattle.lls_rle.specs.Between.{is_between}
use Rattle.lls_rle.proofs.reader.make_live.Given as goal

abbrev pub invariant-loop-k : goal.invariant-loop-k
invariant-loop-k l = (k : ℕ) → get_or l.cells k false ≡ (get_or l.initial.cells k false || is_between l.from (l.k - l.from) k)
