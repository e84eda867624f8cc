use Rattle.std.proofs.Common.{◌≡◌, ◌≤◌, ◌++◌, map, take}
use Rattle.std.specs.Prelude.{vec_capacity}
use Rattle.lls_lit.specs.Literal.{variable_of}
use Rattle.lls_prooflog.proofs.hint_buffers.narrowed.Given as goal

abbrev pub invariant-loop-hint : goal.invariant-loop-hint
invariant-loop-hint l = record {
  items : l.items.items ≡ l.initial.items.items ++ map variable_of (take l.hint-index l.hints);
  capacity : vec_capacity l.initial.items ≤ vec_capacity l.items;
}
