use Rattle.std.proofs.Common.{◌≢◌, Some, take}
use Rattle.std.specs.Prelude.{ℤ, Contains}
use Rattle.lls_lit.specs.Literal.{variable_of}
use Rattle.lls_store.specs.Trail.{reason_of}
use Rattle.lls_lemmas.specs.Units.{unit_of}
use Rattle.lls_lemmas.proofs.deleting.is_needed.Given as goal

abbrev pub invariant-loop-lit : goal.invariant-loop-lit
invariant-loop-lit g l = (m : ℤ) → Contains (take l.lit-index l.lits) m → (reason_of l.trail.entries (variable_of m) ≢ Some l.number) × (unit_of l.units m ≢ Some l.id)
