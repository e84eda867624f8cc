use Rattle.std.proofs.Common.{take}
use Rattle.std.specs.Prelude.{ℤ, Contains}
use Rattle.lls_lit.specs.Literal.{negation}
use Rattle.lls_lemmas.proofs.resolving.has_true.Given as goal

abbrev pub invariant-loop-lit : goal.invariant-loop-lit
invariant-loop-lit l = (m : ℤ) → Contains (take l.lit-index l.others) m → Contains l.lits (negation m) → ⊥
