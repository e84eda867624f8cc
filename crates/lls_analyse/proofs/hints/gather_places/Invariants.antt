use Rattle.std.proofs.Common.{◌≡◌, take}
use Rattle.std.specs.Prelude.{vec_capacity}
use Rattle.std.specs.List.{filter_map}
use Rattle.lls_analyse.specs.Hinted.{place_followed}
use Rattle.lls_analyse.proofs.hints.gather_places.Given as goal

abbrev pub invariant-loop-lit : goal.invariant-loop-lit
invariant-loop-lit l = (l.places.items ≡ filter_map (place_followed l.trail.entries l.visited.seen) (take l.lit-index l.lit-items)) × (vec_capacity l.places ≡ vec_capacity l.initial.places)
