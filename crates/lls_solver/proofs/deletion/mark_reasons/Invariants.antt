use Rattle.std.proofs.Common.{◌≡◌, ◌<◌, ℕ, false, length, take}
use Rattle.lls_store.specs.Removal.{IsNoReason}
use Rattle.lls_solver.specs.Deletion.{is_marked, KeepsMarks}
use Rattle.lls_solver.proofs.deletion.mark_reasons.Given as goal

abbrev pub invariant-loop-k : goal.invariant-loop-k
invariant-loop-k l = record {
  len : length l.marks ≡ length l.initial.marks;
  reasons : (c : ℕ) → c < length l.marks → is_marked l.marks c ≡ false → IsNoReason (take l.k l.trail.entries) c;
  kept : KeepsMarks l.initial.marks l.marks;
}
