use Rattle.std.proofs.Common.{◌≡◌, take}
use Rattle.lls_lemmas.specs.Rest.{keeps, kept_steps}
use Rattle.lls_lemmas.proofs.keeping.take_kept.Given as goal

abbrev pub invariant-loop-k : goal.invariant-loop-k
invariant-loop-k l = l.rest.steps ≡ kept_steps (keeps l.given l.marks) (take l.k l.log.steps)
