use Rattle.std.proofs.Common.{◌≡◌, ◌≤◌, length, take}
use Rattle.std.specs.Prelude.{vec_capacity}
use Rattle.lls_prooflog.specs.Lent.{ids_of}
use Rattle.lls_prooflog.proofs.ids_ref.IdsRef.to_ids.Given as goal

abbrev pub invariant-loop-k : goal.invariant-loop-k
invariant-loop-k l = record {
  items : l.items.items ≡ take l.k (ids_of l.self);
  capacity : length (ids_of l.self) ≤ vec_capacity l.items;
}
