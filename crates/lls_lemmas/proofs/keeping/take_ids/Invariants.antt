use Rattle.std.proofs.Common.{◌≡◌, take}
use Rattle.std.specs.Prelude.{filter}
use Rattle.lls_prooflog.specs.Lent.{ids_of}
use Rattle.lls_lemmas.specs.Rest.{keeps}
use Rattle.lls_lemmas.proofs.keeping.take_ids.Given as goal

abbrev pub invariant-loop-k : goal.invariant-loop-k
invariant-loop-k l = l.taken.items ≡ filter (keeps l.given l.marks) (take l.k (ids_of l.ids))
