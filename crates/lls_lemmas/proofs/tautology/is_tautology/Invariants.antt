use Rattle.std.proofs.Common.{◌≡◌}
use Rattle.lls_lemmas.proofs.Tautologies.{AreApart}
use Rattle.lls_lemmas.proofs.tautology.is_tautology.Given as goal

abbrev pub invariant-loop-lit : goal.invariant-loop-lit
invariant-loop-lit l = record {
  apart : AreApart l.lits l.lit-index l.marks.lits;
  vars : l.marks.vars ≡ l.initial.marks.vars;
}
