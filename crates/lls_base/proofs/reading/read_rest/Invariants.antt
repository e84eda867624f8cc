use Rattle.std.proofs.Common.{◌≡◌, ◌≤◌, ◌+◌, ◌-◌, List, ℕ, ◌++◌, length, drop, IfSome}
use Rattle.std.specs.Option.{option_map}
use Rattle.lls_base.specs.Faults.{Counts}
use Rattle.lls_base.specs.Shelf.{known_files, known_target, known_rest}
use Rattle.lls_base.proofs.Rest.{IsFront}
use Rattle.lls_base.proofs.reading.read_rest.Given as goal

abbrev pub invariant-loop-count : goal.invariant-loop-count
invariant-loop-count g l = record {
  within : l.taken ≤ l.limit;
  count : length l.into.items ≡ length l.initial.into.items + l.taken;
  rest : known_rest (g.S.Shelf.told l.shelf) ≡ option_map (drop l.taken) (known_rest (g.S.Shelf.told l.initial.shelf));
  grew : (bytes : List ℕ) × (l.into.items ≡ l.initial.into.items ++ bytes) × IfSome (known_rest (g.S.Shelf.told l.initial.shelf)) (IsFront l.taken bytes);
  files : known_files (g.S.Shelf.told l.shelf) ≡ known_files (g.S.Shelf.told l.initial.shelf);
  target : known_target (g.S.Shelf.told l.shelf) ≡ known_target (g.S.Shelf.told l.initial.shelf);
  input : g.S.Shelf.has_input l.shelf ≡ g.S.Shelf.has_input l.initial.shelf;
  output : g.S.Shelf.has_output l.shelf ≡ g.S.Shelf.has_output l.initial.shelf;
  counts : Counts (g.S.Shelf.faults l.initial.shelf) (g.S.Shelf.faults l.shelf);
  no_fault : g.S.Shelf.faults l.shelf ≡ g.S.Shelf.faults l.initial.shelf;
}

abbrev pub decreases-loop-count : goal.decreases-loop-count
decreases-loop-count g l = l.limit - l.taken
