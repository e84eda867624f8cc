use Rattle.std.proofs.Common.{◌≡◌, ◌≤◌, ◌-◌}
use Rattle.lls_base.specs.Faults.{Counts}
use Rattle.lls_base.specs.Shelf.{known_files, known_rest}
use Rattle.lls_hinting.specs.declared.input.TheConstants.{PROOF_LIMIT}
use Rattle.lls_hinting.specs.Place.{Came, place_at}
use Rattle.lls_hinting.proofs.proof_file.ProofFile.next.Given as goal

abbrev pub invariant-loop-next : goal.invariant-loop-next
invariant-loop-next g l = record {
  within : l.self.taken ≤ PROOF_LIMIT;
  input : g.S.Shelf.has_input l.shelf ≡ g.S.Shelf.has_input l.initial.shelf;
  came : Came (place_at l.initial.self (known_rest (g.S.Shelf.told l.initial.shelf))) (place_at l.self (known_rest (g.S.Shelf.told l.shelf)));
  files : known_files (g.S.Shelf.told l.shelf) ≡ known_files (g.S.Shelf.told l.initial.shelf);
  counts : Counts (g.S.Shelf.faults l.initial.shelf) (g.S.Shelf.faults l.shelf);
  no_fault : g.S.Shelf.faults l.shelf ≡ g.S.Shelf.faults l.initial.shelf;
}

abbrev pub decreases-loop-next : goal.decreases-loop-next
decreases-loop-next g l = PROOF_LIMIT - l.self.taken
