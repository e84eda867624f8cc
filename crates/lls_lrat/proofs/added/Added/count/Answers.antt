use Rattle.std.proofs.Common.{◌≡◌, ℕ, ◌<◌, ◌≤◌, [], length, get_or, Some, sym, ap, subst, ◌∙◌, arith}
use Rattle.std.specs.Prelude.{slice_get}
use Rattle.std.specs.List.{zip}
use Rattle.std.proofs.lemmas.Option.{slice_get-get_or}
use Rattle.lls_prooflog.specs.UnitWalk.{Live}
use Rattle.lls_lrat.specs.Placed.{place_of}
use Rattle.lls_lrat.specs.Stored.{is_at}
use Rattle.lls_lrat.specs.Occurring.{HasCounted}
use Rattle.lls_lrat.proofs.Indexed.{get-zip, length-zip}
use Rattle.lls_lrat.proofs.Occurring.{all_counted, dead_passed, live_counted}
use Rattle.lls_lrat.proofs.added.Added.count.Goals as goal
use Rattle.lls_lrat.proofs.added.Added.count.Goals.{then-leads_to+in_ok-add, else-leads_to}

pub loop-place-preserved : goal.loop-place-preserved
loop-place-preserved c =
    let a = c.self.inside in
    let all = zip a.ids.items a.clauses in
    let id = c.index.result.now in
    let place = c.loop-place.place in
    let within : place < length a.ids.items = omega (arith, c.loop-place-test.true, c.len-place-end.ensures, a.ids.ok.0) in
    let stored : place < length a.clauses = omega (arith, within, c.self.invariant.indexed.same_many) in
    let at : slice_get a.ids.items place ≡ Some id = slice_get-get_or a.ids.items place id within ∙ ap (λ (n : ℕ). Some n) (sym c.index.ensures) in
    elim c.if-leads_to.branch [
      | then-leads_to+in_ok-add w ↦
          rw w.counts-is
          (live_counted (place_of a.places) all c.args.counts.now c.loop-place.counts place (id, w.clause.result.now) (get-zip a.ids.items a.clauses place id w.clause.result.now at w.clause.ensures) c.loop-place.invariant
          (ap (λ o. is_at o place) (sym c.get.ensures) ∙ sym w.if-leads_to.ensures) w.add.new.self w.in_ok-add.ensures)
      | else-leads_to w ↦
          rw w.counts-is
          (dead_passed (place_of a.places) all c.args.counts.now c.loop-place.counts place (id, get_or a.clauses place []) (get-zip a.ids.items a.clauses place id (get_or a.clauses place []) at (slice_get-get_or a.clauses place [] stored)) c.loop-place.invariant
          (ap (λ o. is_at o place) (sym c.get.ensures) ∙ sym w.if-leads_to.ensures))
    ]

pub returns : goal.returns
returns c =
    let a = c.self.inside in
    let all = zip a.ids.items a.clauses in
    let beyond : length all ≤ c.loop-place.place = omega (arith, c.loop-place-test.false, c.len-place-end.ensures, a.ids.ok.0, length-zip a.ids.items a.clauses c.self.invariant.indexed.same_many) in
    subst (λ (live : Live). HasCounted live c.args.counts.now c.loop-place.counts) c.self.view_is (all_counted (place_of a.places) all c.args.counts.now c.loop-place.counts c.loop-place.place c.loop-place.invariant beyond)
