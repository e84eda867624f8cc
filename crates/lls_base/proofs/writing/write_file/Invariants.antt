use Rattle.std.proofs.Common.{◌≡◌, ◌≤◌, ◌-◌, true, length, take}
use Rattle.std.specs.Option.{option_map}
use Rattle.lls_base.specs.Faults.{Counts}
use Rattle.lls_base.specs.Writing.{with_output}
use Rattle.lls_base.proofs.writing.write_file.Given as goal

abbrev pub invariant-loop-written : goal.invariant-loop-written
invariant-loop-written g l = record {
  within : l.written ≤ length l.bytes;
  told : g.S.Shelf.told l.shelf ≡ option_map (with_output l.name (take l.written l.bytes)) (g.S.Shelf.told l.fn.shelf);
  input : g.S.Shelf.has_input l.shelf ≡ g.S.Shelf.has_input l.fn.shelf;
  output : g.S.Shelf.has_output l.shelf ≡ true;
  counts : Counts (g.S.Shelf.faults l.fn.shelf) (g.S.Shelf.faults l.shelf);
  no_fault : g.S.Shelf.faults l.shelf ≡ g.S.Shelf.faults l.fn.shelf;
}

abbrev pub decreases-loop-written : goal.decreases-loop-written
decreases-loop-written g l = length l.bytes - l.written
