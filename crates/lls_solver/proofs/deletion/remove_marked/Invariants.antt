use Rattle.std.proofs.Common.{◌≡◌}
use Rattle.lls_store.specs.Sound.{IsSound}
use Rattle.lls_solver.proofs.Marks.{without_first}
use Rattle.lls_solver.proofs.deletion.remove_marked.Given as goal

abbrev pub invariant-loop-c : goal.invariant-loop-c
invariant-loop-c g l = record {
  state : g.S.Store.state l.store ≡ without_first l.c (g.S.Store.state l.initial.store) l.marks;
  tracked : g.S.Store.tracks l.store l.trail;
  sound : IsSound (g.S.Store.state l.store).live l.trail;
}
