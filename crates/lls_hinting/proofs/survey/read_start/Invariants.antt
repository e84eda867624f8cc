use Rattle.std.proofs.Common.{◌≡◌, ◌-◌, IfSome, length}
use Rattle.lls_base.specs.Faults.{Counts}
use Rattle.lls_base.specs.Shelf.{known_files, known_rest}
use Rattle.lls_hinting.specs.declared.survey.TheConstants.{FORM_BYTES}
use Rattle.lls_hinting.proofs.Forms.{Begun}
use Rattle.lls_hinting.proofs.survey.read_start.Given as goal

abbrev pub invariant-loop-piece : goal.invariant-loop-piece
invariant-loop-piece g l = record {
  input : g.S.Shelf.has_input l.shelf ≡ g.S.Shelf.has_input l.initial.shelf;
  begun : IfSome (known_rest (g.S.Shelf.told l.initial.shelf)) (Begun l.start.items (known_rest (g.S.Shelf.told l.shelf)));
  files : known_files (g.S.Shelf.told l.shelf) ≡ known_files (g.S.Shelf.told l.initial.shelf);
  counts : Counts (g.S.Shelf.faults l.initial.shelf) (g.S.Shelf.faults l.shelf);
  no_fault : g.S.Shelf.faults l.shelf ≡ g.S.Shelf.faults l.initial.shelf;
}

abbrev pub decreases-loop-piece : goal.decreases-loop-piece
decreases-loop-piece g l = FORM_BYTES - length l.start.items
