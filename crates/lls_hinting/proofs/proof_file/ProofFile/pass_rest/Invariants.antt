use Rattle.std.proofs.Common.{◌≡◌, ◌≤◌, ◌-◌, IfSome}
use Rattle.lls_base.specs.Faults.{Counts}
use Rattle.lls_base.specs.Shelf.{known_files, known_rest}
use Rattle.lls_hinting.specs.declared.input.TheConstants.{PROOF_LIMIT}
use Rattle.lls_hinting.proofs.ReadingPieces.{LeftOf}
use Rattle.lls_hinting.proofs.proof_file.ProofFile.pass_rest.Given as goal

abbrev pub invariant-loop-count : goal.invariant-loop-count
invariant-loop-count g l = record {
  within : l.taken ≤ PROOF_LIMIT;
  input : g.S.Shelf.has_input l.shelf ≡ g.S.Shelf.has_input l.initial.shelf;
  left : IfSome (known_rest (g.S.Shelf.told l.initial.shelf)) (LeftOf l.initial.taken l.taken (known_rest (g.S.Shelf.told l.shelf)));
  files : known_files (g.S.Shelf.told l.shelf) ≡ known_files (g.S.Shelf.told l.initial.shelf);
  counts : Counts (g.S.Shelf.faults l.initial.shelf) (g.S.Shelf.faults l.shelf);
  no_fault : g.S.Shelf.faults l.shelf ≡ g.S.Shelf.faults l.initial.shelf;
}

abbrev pub decreases-loop-count : goal.decreases-loop-count
decreases-loop-count g l = PROOF_LIMIT - l.taken
