use Rattle.std.proofs.Common.{ℕ, take}
use Rattle.std.specs.Prelude.{Contains, IsSome}
use Rattle.lls_store.specs.Clauses.{LiveClause, clause_numbered}
use Rattle.lls_lemmas.proofs.index.take_live.Given as goal

abbrev pub invariant-loop-number : goal.invariant-loop-number
invariant-loop-number g l = record {
  all : (clause : LiveClause) → Contains (g.S.Store.state l.store).live clause → Contains (take l.number-index l.numbers) clause.number → Contains l.taken.items clause.number;
  alive : (number : ℕ) → Contains l.taken.items number → IsSome (clause_numbered (g.S.Store.state l.store).live number);
}
