use Rattle.std.proofs.Common.{◌≡◌, length, take}
use Rattle.lls_grid.proofs.history.begun.Given as goal

abbrev pub invariant-dead : goal.invariant-dead
invariant-dead l = record {
  count : length l.cells.items ≡ l.counter;
  first : take (length l.first) l.cells.items ≡ l.first;
}
