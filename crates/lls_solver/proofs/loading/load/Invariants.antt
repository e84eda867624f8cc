use Rattle.std.proofs.Common.{◌≡◌, [], take}
use Rattle.lls_prooflog.specs.UnitWalk.{numbered}
use Rattle.lls_store.specs.Sound.{IsSound}
use Rattle.lls_solver.specs.Searching.{HoldsClauses}
use Rattle.lls_solver.proofs.loading.load.Given as goal

abbrev pub invariant-loop-k : goal.invariant-loop-k
invariant-loop-k g l = record {
  holds : HoldsClauses (g.S.Store.state l.store) l.formula.vars (take l.k (numbered l.formula.clauses)) l.k;
  tail : (g.S.Store.state l.store).tail ≡ [];
  tracked : g.S.Store.tracks l.store l.trail;
  sound : IsSound (g.S.Store.state l.store).live l.trail;
}
