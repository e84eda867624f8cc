use Rattle.std.proofs.Common.{◌≡◌, take}
use Rattle.std.specs.Prelude.{ℤ, Contains}
use Rattle.lls_store.specs.Clauses.{IsIn}
use Rattle.lls_lemmas.proofs.finding.mark_all.Given as goal

abbrev pub invariant-loop-lit : goal.invariant-loop-lit
invariant-loop-lit l = record {
  of : (m : ℤ) → IsIn l.marks.lits m → Contains (take l.lit-index l.lits) m;
  all : (m : ℤ) → Contains (take l.lit-index l.lits) m → IsIn l.marks.lits m;
  vars : l.marks.vars ≡ l.initial.marks.vars;
}
