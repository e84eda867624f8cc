-- Hints and ids that are lent: the numbers that they are.
use Rattle.std.specs.Prelude.{ℕ, ℤ, pos, List, map}
use Rattle.lls_prooflog.specs.declared.hints_ref.HintsRef.{HintsRef}
use Rattle.lls_prooflog.specs.declared.hints_ref.HintsRef.TheVariants as lent_hints
use Rattle.lls_prooflog.specs.declared.ids_ref.IdsRef.{IdsRef}
use Rattle.lls_prooflog.specs.declared.ids_ref.IdsRef.TheVariants as lent_ids

abbrev pub hints_of : HintsRef → List ℤ
hints_of (lent_hints.Narrow hints) = map pos hints.now
hints_of (lent_hints.Wide hints) = hints.now

abbrev pub ids_of : IdsRef → List ℕ
ids_of (lent_ids.Narrow ids) = ids.now
ids_of (lent_ids.Wide ids) = ids.now
