use Rattle.std.proofs.Common.{◌≡◌, ◌+◌, length, take}
use Rattle.lls_prooflog.specs.Spent.{live_after}
use Rattle.lls_store.specs.Sound.{IsSound}
use Rattle.lls_solver.specs.Policy.{policy_for}
use Rattle.lls_solver.specs.Searching.{additions, HoldsClauses}
use Rattle.lls_solver.proofs.catching_up.add_rest.Given as goal

abbrev pub invariant-loop-k : goal.invariant-loop-k
invariant-loop-k g l = record {
  holds : HoldsClauses (g.S.Store.state l.store) l.formula.vars (take (length l.formula.clauses + l.k) (live_after l.formula l.log.steps)) (length l.formula.clauses + additions l.log.steps);
  vars : (g.S.Store.state l.store).vars ≡ (g.S.Store.state l.initial.store).vars;
  tracked : g.S.Store.tracks l.store l.trail;
  sound : IsSound (g.S.Store.state l.store).live l.trail;
  policy : l.policy ≡ policy_for (g.S.Store.state l.store);
}
