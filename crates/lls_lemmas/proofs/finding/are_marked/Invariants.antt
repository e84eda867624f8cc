use Rattle.std.proofs.Common.{take}
use Rattle.std.specs.Prelude.{ℤ, Contains}
use Rattle.lls_store.specs.Clauses.{IsIn}
use Rattle.lls_lemmas.proofs.finding.are_marked.Given as goal

abbrev pub invariant-loop-lit : goal.invariant-loop-lit
invariant-loop-lit l = (m : ℤ) → Contains (take l.lit-index l.lits) m → IsIn l.marks.lits m
