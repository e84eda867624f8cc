use Rattle.std.proofs.Common.{◌≡◌, ℕ, ◌+◌, ◌<◌, get_or}
use Rattle.std.specs.Prelude.{ℤ}
use Rattle.lls_arena.specs.Parts.{DifferWithin}
use Rattle.lls_arena.proofs.arena.slide.Given as goal

abbrev pub invariant-loop-k : goal.invariant-loop-k
invariant-loop-k l = record {
  outside : DifferWithin l.initial.lits l.lits l.to (l.to + l.k);
  moved : (j : ℕ) (d : ℤ) → j < l.k → get_or l.lits (l.to + j) d ≡ get_or l.initial.lits (l.start + j) d;
}
