use Rattle.std.proofs.Common.{◌≡◌, ℕ, Bool, ◌+◌, ◌<◌, ◌≤◌, [], length, get_or, Some, sym, ap, ◌∙◌, arith}
use Rattle.std.specs.Prelude.{find, slice_get}
use Rattle.std.specs.Option.{option_map}
use Rattle.std.proofs.lemmas.Option.{slice_get-get_or}
use Rattle.std.proofs.lemmas.List.FromFn.{length-enumerate_from}
use Rattle.lls_lit.specs.Formula.{Clause}
use Rattle.lls_prooflog.specs.UnitWalk.{numbered}
use Rattle.lls_lrat.specs.Grouped.{is_lacking}
use Rattle.lls_lrat.specs.Stored.{flagged}
use Rattle.lls_lrat.proofs.Flagged.{get-enumerate_from, is_at-flagged}
use Rattle.lls_lrat.proofs.Lacking.{first_here, not_dead, not_passing, none_left}
use Rattle.lls_lrat.proofs.given.Given.first_lacking.Goals as goal
use Rattle.lls_lrat.proofs.given.Given.first_lacking.Goals.{else-index-via-then-index+else-is_lacking, else-index-via-else-index}

pub returns-then-is_lacking : goal.returns-then-is_lacking
returns-then-is_lacking c =
    let g = c.self.inside in
    let test = is_lacking c.args.lit c.args.ids.now in
    let place = c.loop-place.place in
    let clause = c.clause.result.now in
    let next : 1 + place ≡ place + 1 = omega arith in
    let within : place < length g.live.items = omega (arith, c.loop-place-test.true, c.len-place-end.ensures, g.live.ok.0) in
    let at : slice_get g.live.items place ≡ Some c.index.result.now = slice_get-get_or g.live.items place c.index.result.now within ∙ ap (λ (b : Bool). Some b) (sym c.index.ensures) in
    sym (ap (option_map (λ (p : ℕ × Clause). p.0)) (ap (find test) (sym c.self.view_is)
    ∙ first_here test (flagged g.live.items) (numbered g.formula.now.clauses) place (1 + place, clause) (get-enumerate_from 1 g.formula.now.clauses place clause c.clause.ensures.value) c.loop-place.invariant
    (is_at-flagged g.live.items place c.index.result.now at ∙ c.if-index.true) (ap (λ n. test (n, clause)) next ∙ sym c.if-is_lacking.ensures))
    ∙ ap (λ (n : ℕ). Some n) next)

pub loop-place-preserved : goal.loop-place-preserved
loop-place-preserved c =
    let g = c.self.inside in
    let clauses = g.formula.now.clauses in
    let test = is_lacking c.args.lit c.args.ids.now in
    let place = c.loop-place.place in
    let next : 1 + place ≡ place + 1 = omega arith in
    let within : place < length g.live.items = omega (arith, c.loop-place-test.true, c.len-place-end.ensures, g.live.ok.0) in
    let stored : place < length clauses = omega (arith, within, c.self.invariant) in
    let at : slice_get g.live.items place ≡ Some c.index.result.now = slice_get-get_or g.live.items place c.index.result.now within ∙ ap (λ (b : Bool). Some b) (sym c.index.ensures) in
    elim c.else-index.branch [
      | else-index-via-then-index+else-is_lacking w ↦
          not_passing test (flagged g.live.items) (numbered clauses) place (1 + place, w.clause.result.now) (get-enumerate_from 1 clauses place w.clause.result.now w.clause.ensures.value) c.loop-place.invariant
          (is_at-flagged g.live.items place c.index.result.now at ∙ w.if-index.true) (ap (λ n. test (n, w.clause.result.now)) next ∙ sym w.if-is_lacking.ensures)
      | else-index-via-else-index w ↦
          not_dead test (flagged g.live.items) (numbered clauses) place (1 + place, get_or clauses place []) (get-enumerate_from 1 clauses place (get_or clauses place []) (slice_get-get_or clauses place [] stored)) c.loop-place.invariant
          (is_at-flagged g.live.items place c.index.result.now at ∙ w.if-index.false)
    ]

pub returns : goal.returns
returns c =
    let g = c.self.inside in
    let test = is_lacking c.args.lit c.args.ids.now in
    let beyond : length (numbered g.formula.now.clauses) ≤ c.loop-place.place = omega (arith, c.loop-place-test.false, c.len-place-end.ensures, g.live.ok.0, c.self.invariant, length-enumerate_from 1 g.formula.now.clauses) in
    sym (ap (option_map (λ (p : ℕ × Clause). p.0)) (ap (find test) (sym c.self.view_is) ∙ none_left test (flagged g.live.items) (numbered g.formula.now.clauses) c.loop-place.place c.loop-place.invariant beyond))
