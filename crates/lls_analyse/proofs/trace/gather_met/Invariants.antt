use Rattle.std.proofs.Common.{◌≡◌, take}
use Rattle.std.specs.Prelude.{vec_capacity}
use Rattle.lls_analyse.proofs.trace.gather_met.Given as goal

abbrev pub invariant-loop-lit : goal.invariant-loop-lit
invariant-loop-lit l = (l.met.items ≡ take l.lit-index l.lit-items) × (vec_capacity l.met ≡ vec_capacity l.initial.met)
