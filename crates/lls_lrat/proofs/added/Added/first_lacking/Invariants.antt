use Rattle.std.specs.List.{zip}
use Rattle.lls_lrat.specs.Placed.{place_of}
use Rattle.lls_lrat.specs.Grouped.{is_lacking}
use Rattle.lls_lrat.proofs.Lacking.{FirstFrom}
use Rattle.lls_lrat.proofs.added.Added.first_lacking.Given as goal

abbrev pub invariant-loop-place : goal.invariant-loop-place
invariant-loop-place l =
    let g = l.self-inside in
    FirstFrom (is_lacking l.lit l.ids) (place_of g.places) (zip g.ids.items g.clauses) l.place
