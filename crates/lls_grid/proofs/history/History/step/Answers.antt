use Rattle.std.proofs.Common.{◌≡◌, ◌<◌, ◌≤◌, ◌∙◌, ◌+◌, length, set, ap, sym, subst, arith}
use Rattle.std.proofs.lemmas.List.FromFn.{length-map-range_with_len}
use Rattle.lls_grid.specs.History.{History, HasSizes, rows_at, height_of, width_of}
use Rattle.lls_grid.specs.Changes.{successor_row, successors}
use Rattle.lls_grid.proofs.Folded.{height_of-folded, HasSizes-folded}
use Rattle.lls_grid.proofs.Steps.{mixed_all, row_more, rows_count, height_of-set}
use Rattle.lls_grid.proofs.history.History.step.Goals as goal

pub step_row-requires-clause-row : goal.step_row-requires-clause-row
step_row-requires-clause-row c =
    let h = c.self.inside in
    let height : height_of c.loop-y.self ≡ height_of c.args.self.now = ap height_of c.loop-y.invariant ∙ height_of-set c.args.self.now c.args.t _ in
    omega (arith, height, c.loop-y-test.true, ap height_of c.self.view_is, height_of-folded h.sizes.generations h.sizes.height h.sizes.width h.cells.items c.self.invariant.generations.0)

pub loop-y-preserved : goal.loop-y-preserved
loop-y-preserved c =
    let h = c.self.inside in
    let old = c.args.self.now in
    let Sized : History → Type 0 = λ history. HasSizes (length history) (height_of history) (width_of history) history in
    let sizes = subst Sized c.self.view_is (HasSizes-folded h.sizes.generations h.sizes.height h.sizes.width h.cells.items c.self.invariant.generations.0 c.self.invariant.height.0) in
    let y_in : c.loop-y.y < height_of old =
    omega (arith, c.loop-y-test.true, ap height_of c.self.view_is, height_of-folded h.sizes.generations h.sizes.height h.sizes.width h.cells.items c.self.invariant.generations.0) in
    c.step_row.ensures ∙ row_more c.args.rule.now old c.loop-y.self c.args.t c.loop-y.y sizes c.requires y_in c.loop-y.invariant

pub returns : goal.returns
returns c =
    let h = c.self.inside in
    let old = c.args.self.now in
    let Sized : History → Type 0 = λ history. HasSizes (length history) (height_of history) (width_of history) history in
    let sizes = subst Sized c.self.view_is (HasSizes-folded h.sizes.generations h.sizes.height h.sizes.width h.cells.items c.self.invariant.generations.0 c.self.invariant.height.0) in
    let rows = successors c.args.rule.now old c.args.t in
    let before = rows_at old (c.args.t + 1) in
    let height : h.sizes.height ≡ height_of old = sym (height_of-folded h.sizes.generations h.sizes.height h.sizes.width h.cells.items c.self.invariant.generations.0) ∙ ap height_of c.self.view_is in
    let new_past : length rows ≤ c.loop-y.y = omega (arith, c.loop-y-test.false, height, length-map-range_with_len (successor_row c.args.rule.now old c.args.t) 0 (height_of old)) in
    let old_past : length before ≤ c.loop-y.y = omega (arith, c.loop-y-test.false, height, rows_count (length old) (height_of old) (width_of old) (c.args.t + 1) old sizes c.requires) in
    c.loop-y.invariant ∙ ap (set old (c.args.t + 1)) (mixed_all rows before c.loop-y.y new_past old_past)
