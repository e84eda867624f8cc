use Rattle.std.proofs.Common.{◌≡◌, ℕ, ◌||◌, false, length, take}
use Rattle.std.specs.Prelude.{slice_index_or}
use Rattle.lls_prooflog.specs.Lent.{hints_of}
use Rattle.lls_lemmas.specs.Rest.{names}
use Rattle.lls_lemmas.proofs.keeping.mark_hints.Given as goal

abbrev pub invariant-loop-k : goal.invariant-loop-k
invariant-loop-k l = record {
  marks : (i : ℕ) → slice_index_or l.marks i false ≡ (slice_index_or l.initial.marks i false || names (take l.k (hints_of l.hints)) l.id i);
  len : length l.marks ≡ length l.initial.marks;
}
