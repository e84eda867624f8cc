use Rattle.std.proofs.Common.{◌≡◌, take}
use Rattle.std.specs.List.{zip}
use Rattle.lls_lrat.specs.Stored.{kept}
use Rattle.lls_lrat.specs.Placed.{place_of}
use Rattle.lls_lrat.proofs.added.Added.compacted.Given as goal

abbrev pub invariant-loop-place : goal.invariant-loop-place
invariant-loop-place l =
    let a = l.self-inside in
    l.fresh ≡ kept (place_of a.places) 0 (take l.place (zip a.ids.items a.clauses))
