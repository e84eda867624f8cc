use Rattle.std.proofs.Common.{◌≡◌, Bool, ◌+◌, ◌<◌, ◌≤◌, [], length, get_or, Some, sym, ap, subst, ◌∙◌, arith}
use Rattle.std.specs.Prelude.{slice_get}
use Rattle.std.proofs.lemmas.Option.{slice_get-get_or}
use Rattle.std.proofs.lemmas.List.FromFn.{length-enumerate_from}
use Rattle.lls_prooflog.specs.UnitWalk.{Live, numbered}
use Rattle.lls_lrat.specs.Stored.{flagged}
use Rattle.lls_lrat.specs.Occurring.{HasCounted}
use Rattle.lls_lrat.proofs.Flagged.{get-enumerate_from, is_at-flagged}
use Rattle.lls_lrat.proofs.Occurring.{all_counted, dead_passed, live_counted}
use Rattle.lls_lrat.proofs.given.Given.count.Goals as goal
use Rattle.lls_lrat.proofs.given.Given.count.Goals.{then-index+in_ok-add, else-index}

pub loop-place-preserved : goal.loop-place-preserved
loop-place-preserved c =
    let g = c.self.inside in
    let clauses = g.formula.now.clauses in
    let place = c.loop-place.place in
    let within : place < length g.live.items = omega (arith, c.loop-place-test.true, c.len-place-end.ensures, g.live.ok.0) in
    let stored : place < length clauses = omega (arith, within, c.self.invariant) in
    let at : slice_get g.live.items place ≡ Some c.index.result.now = slice_get-get_or g.live.items place c.index.result.now within ∙ ap (λ (b : Bool). Some b) (sym c.index.ensures) in
    elim c.if-index.branch [
      | then-index+in_ok-add w ↦
          rw w.counts-is
          (live_counted (flagged g.live.items) (numbered clauses) c.args.counts.now c.loop-place.counts place (1 + place, w.clause.result.now) (get-enumerate_from 1 clauses place w.clause.result.now w.clause.ensures.value) c.loop-place.invariant
          (is_at-flagged g.live.items place c.index.result.now at ∙ w.if-index.true) w.add.new.self w.in_ok-add.ensures)
      | else-index w ↦
          rw w.counts-is
          (dead_passed (flagged g.live.items) (numbered clauses) c.args.counts.now c.loop-place.counts place (1 + place, get_or clauses place []) (get-enumerate_from 1 clauses place (get_or clauses place []) (slice_get-get_or clauses place [] stored)) c.loop-place.invariant
          (is_at-flagged g.live.items place c.index.result.now at ∙ w.if-index.false))
    ]

pub returns : goal.returns
returns c =
    let g = c.self.inside in
    let beyond : length (numbered g.formula.now.clauses) ≤ c.loop-place.place = omega (arith, c.loop-place-test.false, c.len-place-end.ensures, g.live.ok.0, c.self.invariant, length-enumerate_from 1 g.formula.now.clauses) in
    subst (λ (live : Live). HasCounted live c.args.counts.now c.loop-place.counts) c.self.view_is (all_counted (flagged g.live.items) (numbered g.formula.now.clauses) c.args.counts.now c.loop-place.counts c.loop-place.place c.loop-place.invariant beyond)
