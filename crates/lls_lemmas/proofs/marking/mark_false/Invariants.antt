use Rattle.std.proofs.Common.{◌≡◌, take}
use Rattle.std.specs.Prelude.{ℤ, Contains}
use Rattle.lls_store.specs.Trail.{HasNegated}
use Rattle.lls_store.specs.Clauses.{IsIn}
use Rattle.lls_lemmas.specs.Closing.{AreListed}
use Rattle.lls_lemmas.proofs.marking.mark_false.Given as goal

abbrev pub invariant-loop-lit : goal.invariant-loop-lit
invariant-loop-lit l = record {
  marked : (m : ℤ) → Contains (take l.lit-index l.lits) m → HasNegated l.trail.entries m → IsIn l.marks.lits m;
  kept : (m : ℤ) → IsIn l.initial.marks.lits m → IsIn l.marks.lits m;
  listed : AreListed l.initial.marks.vars l.marks.lits l.met.items;
  vars : l.marks.vars ≡ l.initial.marks.vars;
}
