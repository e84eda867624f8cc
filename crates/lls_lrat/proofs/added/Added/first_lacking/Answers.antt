use Rattle.std.proofs.Common.{◌≡◌, ℕ, ◌<◌, ◌≤◌, [], length, get_or, Some, sym, ap, ◌∙◌, arith}
use Rattle.std.specs.Prelude.{find, slice_get}
use Rattle.std.specs.List.{zip}
use Rattle.std.specs.Option.{option_map}
use Rattle.std.proofs.lemmas.Option.{slice_get-get_or}
use Rattle.lls_lit.specs.Formula.{Clause}
use Rattle.lls_lrat.specs.Grouped.{is_lacking}
use Rattle.lls_lrat.specs.Placed.{place_of}
use Rattle.lls_lrat.specs.Stored.{is_at}
use Rattle.lls_lrat.proofs.Indexed.{get-zip, length-zip}
use Rattle.lls_lrat.proofs.Lacking.{first_here, not_dead, not_passing, none_left}
use Rattle.lls_lrat.proofs.added.Added.first_lacking.Goals as goal
use Rattle.lls_lrat.proofs.added.Added.first_lacking.Goals.{else-is_live-via-then-is_live+else-is_lacking, else-is_live-via-else-is_live}

pub returns-then-is_lacking : goal.returns-then-is_lacking
returns-then-is_lacking c =
    let a = c.self.inside in
    let test = is_lacking c.args.lit c.args.ids.now in
    let id = c.index-id.result.now in
    let place = c.loop-place.place in
    let within : place < length a.ids.items = omega (arith, c.loop-place-test.true, c.len-place-end.ensures, a.ids.ok.0) in
    let at : slice_get a.ids.items place ≡ Some id = slice_get-get_or a.ids.items place id within ∙ ap (λ (n : ℕ). Some n) (sym c.index-id.ensures) in
    let live = ap (λ o. is_at o place) (sym c.get.ensures) ∙ sym c.if-is_live.ensures in
    sym (ap (option_map (λ (p : ℕ × Clause). p.0)) (ap (find test) (sym c.self.view_is)
    ∙ first_here test (place_of a.places) (zip a.ids.items a.clauses) place (id, c.clause.result.now) (get-zip a.ids.items a.clauses place id c.clause.result.now at c.clause.ensures) c.loop-place.invariant live (sym c.if-is_lacking.ensures)))

pub loop-place-preserved : goal.loop-place-preserved
loop-place-preserved c =
    let a = c.self.inside in
    let test = is_lacking c.args.lit c.args.ids.now in
    let all = zip a.ids.items a.clauses in
    let id = c.index-id.result.now in
    let place = c.loop-place.place in
    let within : place < length a.ids.items = omega (arith, c.loop-place-test.true, c.len-place-end.ensures, a.ids.ok.0) in
    let stored : place < length a.clauses = omega (arith, within, c.self.invariant.indexed.same_many) in
    let at : slice_get a.ids.items place ≡ Some id = slice_get-get_or a.ids.items place id within ∙ ap (λ (n : ℕ). Some n) (sym c.index-id.ensures) in
    elim c.else-is_live.branch [
      | else-is_live-via-then-is_live+else-is_lacking w ↦
          not_passing test (place_of a.places) all place (id, w.clause.result.now) (get-zip a.ids.items a.clauses place id w.clause.result.now at w.clause.ensures) c.loop-place.invariant (ap (λ o. is_at o place) (sym c.get.ensures) ∙ sym w.if-is_live.ensures) (sym w.if-is_lacking.ensures)
      | else-is_live-via-else-is_live w ↦
          not_dead test (place_of a.places) all place (id, get_or a.clauses place []) (get-zip a.ids.items a.clauses place id (get_or a.clauses place []) at (slice_get-get_or a.clauses place [] stored)) c.loop-place.invariant (ap (λ o. is_at o place) (sym c.get.ensures) ∙ sym w.if-is_live.ensures)
    ]

pub returns : goal.returns
returns c =
    let a = c.self.inside in
    let test = is_lacking c.args.lit c.args.ids.now in
    let all = zip a.ids.items a.clauses in
    let beyond : length all ≤ c.loop-place.place = omega (arith, c.loop-place-test.false, c.len-place-end.ensures, a.ids.ok.0, length-zip a.ids.items a.clauses c.self.invariant.indexed.same_many) in
    sym (ap (option_map (λ (p : ℕ × Clause). p.0)) (ap (find test) (sym c.self.view_is) ∙ none_left test (place_of a.places) all c.loop-place.place c.loop-place.invariant beyond))
