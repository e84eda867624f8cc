use Rattle.std.proofs.Common.{◌≡◌, ℕ, ◌<◌, ◌≤◌, get_or}
use Rattle.lls_store.specs.declared.flat.Head.{Head}
use Rattle.lls_store.proofs.flat.number_heads.Given as goal

-- the heads below k are numbered, the others are as they were
abbrev pub invariant-loop-k : goal.invariant-loop-k
invariant-loop-k l = record {
  below : (j : ℕ) (d : Head) → j < l.k → get_or l.heads j d ≡ record (get_or l.initial.heads j d) { number = j };
  above : (j : ℕ) (d : Head) → l.k ≤ j → get_or l.heads j d ≡ get_or l.initial.heads j d;
}
