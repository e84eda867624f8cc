use Rattle.std.proofs.Common.{◌≡◌, ◌≤◌, ◌++◌, take}
use Rattle.std.specs.Prelude.{vec_capacity}
use Rattle.lls_prooflog.proofs.id_buffers.narrowed.Given as goal

abbrev pub invariant-loop-id : goal.invariant-loop-id
invariant-loop-id l = record {
  items : l.items.items ≡ l.initial.items.items ++ take l.id-index l.ids;
  capacity : vec_capacity l.initial.items ≤ vec_capacity l.items;
}
