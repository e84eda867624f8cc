use Rattle.std.proofs.Common.{◌≡◌, length, take}
use Rattle.std.specs.Prelude.{All}
use Rattle.lls_solver.specs.Deletion.{HasReasons}
use Rattle.lls_solver.specs.Searching.{SearcherState}
use Rattle.lls_crew.proofs.forgetting.reasons_of.Given as goal

abbrev pub invariant-loop-searcher : goal.invariant-loop-searcher
invariant-loop-searcher l = record {
  len : length l.reasons.items ≡ l.count;
  reasons : All (λ (s : SearcherState). HasReasons s.trail.entries l.reasons.items) (take l.searcher-index l.searchers);
}
