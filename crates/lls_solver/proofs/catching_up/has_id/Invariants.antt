use Rattle.std.proofs.Common.{◌<◌, ◌≢◌}
use Rattle.std.specs.Prelude.{Contains}
use Rattle.lls_store.specs.Clauses.{LiveClause}
use Rattle.lls_solver.proofs.catching_up.has_id.Given as goal

abbrev pub invariant-loop-c : goal.invariant-loop-c
invariant-loop-c g l = (x : LiveClause) → Contains (g.S.Store.state l.store).live x → x.number < l.c → x.id ≢ l.id
