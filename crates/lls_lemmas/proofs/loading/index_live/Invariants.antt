use Rattle.std.proofs.Common.{◌≡◌, ◌<◌}
use Rattle.std.specs.Prelude.{Contains}
use Rattle.lls_store.specs.Clauses.{LiveClause}
use Rattle.lls_lemmas.specs.Indexed.{IsIndexed, IsLinked}
use Rattle.lls_lemmas.proofs.loading.index_live.Given as goal

abbrev pub invariant-loop-number : goal.invariant-loop-number
invariant-loop-number g l = record {
  linked : IsLinked l.index;
  each : (clause : LiveClause) → Contains (g.S.Store.state l.store).live clause → clause.number < l.number → IsIndexed l.initial.marks.vars l.index clause;
  vars : l.marks.vars ≡ l.initial.marks.vars;
}
