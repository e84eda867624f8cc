use Rattle.std.proofs.Common.{◌≡◌, take, map}
use Rattle.std.specs.Prelude.{vec_capacity}
use Rattle.lls_analyse.specs.Hinted.{hint_at}
use Rattle.lls_analyse.proofs.hints.hints_of.Given as goal

abbrev pub invariant-loop-place : goal.invariant-loop-place
invariant-loop-place g l = (l.hints.items ≡ map (hint_at (g.S.Store.state l.store).live l.trail.entries) (take l.place-index l.places)) × (vec_capacity l.hints ≡ vec_capacity l.initial.hints)
