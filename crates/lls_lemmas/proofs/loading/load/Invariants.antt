use Rattle.std.proofs.Common.{◌≡◌, ◌≤◌, [], take}
use Rattle.std.specs.Prelude.{Contains}
use Rattle.lls_prooflog.specs.UnitWalk.{numbered}
use Rattle.lls_store.specs.Clauses.{LiveClause}
use Rattle.lls_store.specs.Sound.{IsSound}
use Rattle.lls_analyse.specs.Spelled.{Spells}
use Rattle.lls_lemmas.proofs.loading.load.Given as goal

abbrev pub invariant-loop-k : goal.invariant-loop-k
invariant-loop-k g l = record {
  vars : (g.S.Store.state l.store).vars ≡ l.trail.vars;
  tail : (g.S.Store.state l.store).tail ≡ [];
  count : (g.S.Store.state l.store).count ≡ l.k;
  spelled : Spells (g.S.Store.state l.store).live (take l.k (numbered l.formula.clauses));
  ids : (clause : LiveClause) → Contains (g.S.Store.state l.store).live clause → clause.id ≤ l.k;
  tracked : g.S.Store.tracks l.store l.trail;
  sound : IsSound (g.S.Store.state l.store).live l.trail;
}
