use Rattle.std.proofs.Common.{◌≡◌, ◌<◌, ◌≤◌, ℕ, get_or, length}
use Rattle.lls_solver.specs.Deletion.{HasForgotten}
use Rattle.lls_solver.specs.Searching.{SearcherState}
use Rattle.lls_crew.proofs.forgetting.remove.Given as goal

abbrev pub invariant-loop-k : goal.invariant-loop-k
invariant-loop-k l = record {
  many : length l.searchers ≡ length l.initial.searchers;
  done : (j : ℕ) (d : SearcherState) → j < l.k → HasForgotten l.marks (get_or l.initial.searchers j d) (get_or l.searchers j d);
  rest : (j : ℕ) (d : SearcherState) → l.k ≤ j → get_or l.searchers j d ≡ get_or l.initial.searchers j d;
}
