use Rattle.std.proofs.Common.{◌≡◌, ◌<◌}
use Rattle.std.specs.Prelude.{Contains}
use Rattle.lls_store.specs.Clauses.{LiveClause}
use Rattle.lls_lemmas.specs.Indexed.{IsPlain}
use Rattle.lls_lemmas.specs.Lemmas.{DropsTautology, GoesOnBy, KeepsPlain}
use Rattle.lls_lemmas.specs.Units.{IsAtRest}
use Rattle.lls_lemmas.proofs.loading.drop_tautologies.Given as goal

abbrev pub invariant-loop-number : goal.invariant-loop-number
invariant-loop-number g l = record {
  rest : IsAtRest l.formula l.log.steps (g.S.Store.state l.store) l.trail l.units 0 l.last;
  plain : (clause : LiveClause) → Contains (g.S.Store.state l.store).live clause → clause.number < l.number → IsPlain clause.lits;
  of : (clause : LiveClause) → Contains (g.S.Store.state l.store).live clause → Contains (g.S.Store.state l.initial.store).live clause;
  drops : GoesOnBy DropsTautology l.formula l.initial.log.steps l.log.steps;
  keeps : KeepsPlain l.formula l.initial.log.steps l.log.steps;
  count : (g.S.Store.state l.store).count ≡ (g.S.Store.state l.initial.store).count;
  tracked : g.S.Store.tracks l.store l.trail;
  vars : l.marks.vars ≡ l.initial.marks.vars;
}
