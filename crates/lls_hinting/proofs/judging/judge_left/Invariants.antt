use Rattle.std.proofs.Common.{◌≡◌, ◌≤◌, ◌<◌, ◌-◌, ◌^◌, List}
use Rattle.lls_base.specs.Faults.{Counts}
use Rattle.lls_base.specs.Shelf.{known_files, known_rest}
use Rattle.lls_drat.specs.Lemma.{NumberedLemma}
use Rattle.lls_hinting.specs.declared.input.TheConstants.{PROOF_LIMIT}
use Rattle.lls_hinting.specs.Behind.{TakesAll}
use Rattle.lls_hinting.specs.Judging.{IsResting, progress}
use Rattle.lls_hinting.specs.Place.{Passes, place_at}
use Rattle.lls_hinting.proofs.judging.judge_left.Given as goal

abbrev pub invariant-loop-proof : goal.invariant-loop-proof
invariant-loop-proof g l = record {
  within : l.proof.taken ≤ PROOF_LIMIT;
  input : g.S.Shelf.has_input l.shelf ≡ g.S.Shelf.has_input l.initial.shelf;
  count : l.proof.reader.count < 2 ^ 64;
  formula : l.lemmas.formula ≡ l.initial.lemmas.formula;
  vars : l.lemmas.vars ≡ l.initial.lemmas.vars;
  rest : IsResting l.lemmas;
  reasons : l.tally.reasons ≤ l.proof.reader.count;
  unknown : l.tally.unknown ≤ l.proof.reader.count;
  passed : (front : List NumberedLemma) × Passes front (place_at l.initial.proof (known_rest (g.S.Shelf.told l.initial.shelf))) (place_at l.proof (known_rest (g.S.Shelf.told l.shelf)))
      × TakesAll l.initial.lemmas.formula front (progress l.initial.lemmas.steps l.initial.tally) (progress l.lemmas.steps l.tally);
  files : known_files (g.S.Shelf.told l.shelf) ≡ known_files (g.S.Shelf.told l.initial.shelf);
  counts : Counts (g.S.Shelf.faults l.initial.shelf) (g.S.Shelf.faults l.shelf);
  no_fault : g.S.Shelf.faults l.shelf ≡ g.S.Shelf.faults l.initial.shelf;
}

-- no two lemmas have one number
abbrev pub decreases-loop-proof : goal.decreases-loop-proof
decreases-loop-proof g l = 2 ^ 64 - l.proof.reader.count
