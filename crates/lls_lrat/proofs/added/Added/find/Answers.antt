use Rattle.std.proofs.Common.{sym, ◌∙◌}
use Rattle.std.specs.List.{zip}
use Rattle.lls_lrat.specs.Placed.{place_of}
use Rattle.lls_lrat.proofs.Kept.{find-kept_none}
use Rattle.lls_lrat.proofs.Indexed.{place_within, find-stored}
use Rattle.lls_lrat.proofs.added.Added.find.Goals as goal

pub returns-in_err-place : goal.returns-in_err-place
returns-in_err-place c =
    let a = c.self.inside in
    rw (c.from_residual.ensures, ← c.self.view_is)
    (sym (find-kept_none (place_of a.places) 0 (zip a.ids.items a.clauses) c.args.id (sym c.get.ensures ∙ c.in_err-place.was)))

pub clause-requires : goal.clause-requires
clause-requires c =
    let a = c.self.inside in
    place_within (place_of a.places) a.ids.items a.clauses c.args.id c.in_ok-place.place c.self.invariant.indexed (sym c.get.ensures ∙ c.in_ok-place.was)

pub returns : goal.returns
returns c =
    let a = c.self.inside in
    rw (← c.self.view_is)
    (sym (find-stored (place_of a.places) a.ids.items a.clauses c.args.id c.in_ok-place.place c.clause.result.now c.self.invariant.indexed (sym c.get.ensures ∙ c.in_ok-place.was) c.clause.ensures))
