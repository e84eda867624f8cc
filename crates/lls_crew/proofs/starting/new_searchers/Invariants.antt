use Rattle.std.proofs.Common.{◌≡◌, [], length}
use Rattle.std.specs.Prelude.{All}
use Rattle.lls_solver.specs.Searching.{IsSearching}
use Rattle.lls_crew.proofs.starting.new_searchers.Given as goal

abbrev pub invariant-loop-k : goal.invariant-loop-k
invariant-loop-k l = record {
  len : length l.searchers.items ≡ l.k;
  searching : All (λ s. IsSearching l.formula [] s.store s.trail) l.searchers.items;
}
