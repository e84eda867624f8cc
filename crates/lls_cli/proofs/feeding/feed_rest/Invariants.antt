use Rattle.std.proofs.Common.{◌≡◌, ◌≤◌, ◌-◌, drop}
use Rattle.std.specs.Option.{option_map}
use Rattle.lls_base.specs.Faults.{Counts}
use Rattle.lls_base.specs.Shelf.{known_rest}
use Rattle.lls_outside.specs.Kept.{KeepsFiles}
use Rattle.lls_outside.specs.Moment.{shelf_at}
use Rattle.lls_cli.specs.Question.{proof_limit}
use Rattle.lls_cli.proofs.FedProofs.{HasFed}
use Rattle.lls_cli.proofs.feeding.feed_rest.Given as goal

abbrev pub invariant-loop-count : goal.invariant-loop-count
invariant-loop-count g l = record {
  within : l.taken ≤ proof_limit;
  rest : known_rest (g.S.Shelf.told l.shelf) ≡ option_map (drop l.taken) (known_rest (g.S.Shelf.told l.initial.shelf));
  fed : HasFed l.initial.feed.formula l.feed.feeding (known_rest (g.S.Shelf.told l.initial.shelf)) l.taken;
  formula : l.feed.formula ≡ l.initial.feed.formula;
  kept : KeepsFiles (shelf_at g.S.Shelf l.initial.shelf) (shelf_at g.S.Shelf l.shelf);
  input : g.S.Shelf.has_input l.shelf ≡ g.S.Shelf.has_input l.initial.shelf;
  counts : Counts (g.S.Shelf.faults l.initial.shelf) (g.S.Shelf.faults l.shelf);
  no_fault : g.S.Shelf.faults l.shelf ≡ g.S.Shelf.faults l.initial.shelf;
}

abbrev pub decreases-loop-count : goal.decreases-loop-count
decreases-loop-count g l = proof_limit - l.taken
