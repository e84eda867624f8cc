use Rattle.std.specs.List.{zip}
use Rattle.lls_lrat.specs.Placed.{place_of}
use Rattle.lls_lrat.proofs.Occurring.{CountedFrom}
use Rattle.lls_lrat.proofs.added.Added.count.Given as goal

abbrev pub invariant-loop-place : goal.invariant-loop-place
invariant-loop-place l =
    let g = l.self-inside in
    CountedFrom (place_of g.places) (zip g.ids.items g.clauses) l.initial.counts l.counts l.place
