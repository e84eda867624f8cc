use Rattle.std.proofs.Common.{◌≡◌, ℕ, ◌+◌, ◌<◌, ◌≤◌, length, take, Some, sym, ap, ◌∙◌, arith}
use Rattle.std.specs.Prelude.{slice_get}
use Rattle.std.specs.List.{zip}
use Rattle.std.proofs.lemmas.List.{length-take-le, take_all}
use Rattle.std.proofs.lemmas.Option.{slice_get-get_or}
use Rattle.lls_lrat.specs.Placed.{place_of}
use Rattle.lls_lrat.specs.Stored.{kept, is_at}
use Rattle.lls_lrat.proofs.Kept.{find-kept_later, kept-next, is_at-true}
use Rattle.lls_lrat.proofs.Indexed.{get-zip, length-zip}
use Rattle.lls_lrat.proofs.added.Added.compacted.Goals as goal

pub push_live-requires : goal.push_live-requires
push_live-requires c =
    let a = c.self.inside in
    let all = zip a.ids.items a.clauses in
    let id = c.index-id.result.now in
    let place = c.loop-place.place in
    let within : place ≤ length all = omega (arith, c.loop-place-test.true, c.len-place-end.ensures, a.ids.ok.0, length-zip a.ids.items a.clauses c.self.invariant.indexed.same_many) in
    let before : 0 + length (take place all) ≤ place = omega (arith, length-take-le place all within) in
    λ live.
    rw c.loop-place.invariant (find-kept_later (place_of a.places) 0 (take place all) id place (is_at-true (place_of a.places id) place (sym live ∙ c.leads_to-is_live.ensures ∙ ap (λ o. is_at o place) c.get.ensures)) before)

pub loop-place-preserved : goal.loop-place-preserved
loop-place-preserved c =
    let a = c.self.inside in
    let id = c.index-id.result.now in
    let place = c.loop-place.place in
    let within : place < length a.ids.items = omega (arith, c.loop-place-test.true, c.len-place-end.ensures, a.ids.ok.0) in
    let at : slice_get a.ids.items place ≡ Some id = slice_get-get_or a.ids.items place id within ∙ ap (λ (n : ℕ). Some n) (sym c.index-id.ensures) in
    let next = kept-next (place_of a.places) (zip a.ids.items a.clauses) place id c.clause.result.now (get-zip a.ids.items a.clauses place id c.clause.result.now at c.clause.ensures) in
    rw (c.in_ok-push_live.ensures, c.leads_to-is_live.ensures, c.get.ensures, c.loop-place.invariant) (sym next)

pub returns : goal.returns
returns c =
    let a = c.self.inside in
    let all = zip a.ids.items a.clauses in
    let beyond : length all ≤ c.loop-place.place = omega (arith, c.loop-place-test.false, c.len-place-end.ensures, a.ids.ok.0, length-zip a.ids.items a.clauses c.self.invariant.indexed.same_many) in
    rw (← c.self.view_is) (c.loop-place.invariant ∙ ap (kept (place_of a.places) 0) (take_all c.loop-place.place all beyond))
