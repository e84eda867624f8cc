use Rattle.std.proofs.Common.{◌≡◌, ◌<◌, ◌≤◌, ◌∙◌, ◌+◌, ◌^◌, pos, [], length, get_or, ap, sym, subst, arith, w32}
use Rattle.std.proofs.lemmas.Int.{ints, to_z_pos}
use Rattle.std.proofs.lemmas.List.FromFn.{length-map-range_with_len}
use Rattle.lls_rule.specs.Rule.{answer, number_of, successor}
use Rattle.lls_grid.specs.History.{History, HasSizes, rows_at, height_of, width_of, nine}
use Rattle.lls_grid.specs.Changes.{with_row, successor_row}
use Rattle.lls_grid.proofs.Folded.{length-folded, height_of-folded, width_of-folded, HasSizes-folded}
use Rattle.lls_grid.proofs.Steps.{mixed_all, cell_more, cells_count, width_of-set}
use Rattle.lls_grid.proofs.history.History.step_row.Goals as goal

pub overflow_cast-y : goal.overflow_cast-y
overflow_cast-y c =
    let h = c.self.inside in
    let small : c.args.y < 64 = omega (arith, c.requires.row, ap height_of c.self.view_is, height_of-folded h.sizes.generations h.sizes.height h.sizes.width h.cells.items c.self.invariant.generations.0, c.self.invariant.height.1) in
    omega (arith, ints)

pub nine-requires-clause-row : goal.nine-requires-clause-row
nine-requires-clause-row c =
    let h = c.self.inside in
    let small : c.args.y < 64 = omega (arith, c.requires.row, ap height_of c.self.view_is, height_of-folded h.sizes.generations h.sizes.height h.sizes.width h.cells.items c.self.invariant.generations.0, c.self.invariant.height.1) in
    (omega (arith, ints), omega (arith, ints))

pub overflow_add-t : goal.overflow_add-t
overflow_add-t c =
    let h = c.self.inside in
    omega (arith, c.requires.generation, ap length c.self.view_is, length-folded h.sizes.generations h.sizes.height h.sizes.width h.cells.items, c.self.invariant.generations.1)

pub set-requires-clause-column : goal.set-requires-clause-column
set-requires-clause-column c =
    let h = c.self.inside in
    let width : width_of c.loop-x.self ≡ width_of c.args.self.now = ap width_of c.loop-x.invariant ∙ width_of-set c.args.self.now c.args.t _ in
    omega (arith, width, c.loop-x-test.true, ap width_of c.self.view_is, width_of-folded h.sizes.generations h.sizes.height h.sizes.width h.cells.items c.self.invariant.generations.0 c.self.invariant.height.0)

pub loop-x-preserved : goal.loop-x-preserved
loop-x-preserved c =
    let h = c.self.inside in
    let old = c.args.self.now in
    let Sized : History → Type 0 = λ history. HasSizes (length history) (height_of history) (width_of history) history in
    let sizes = subst Sized c.self.view_is (HasSizes-folded h.sizes.generations h.sizes.height h.sizes.width h.cells.items c.self.invariant.generations.0 c.self.invariant.height.0) in
    let x_in : c.loop-x.x < width_of old =
    omega (arith, c.loop-x-test.true, ap width_of c.self.view_is, width_of-folded h.sizes.generations h.sizes.height h.sizes.width h.cells.items c.self.invariant.generations.0 c.self.invariant.height.0) in
    let y_small : c.args.y < 2 ^ 31 = omega (arith, c.requires.row, ap height_of c.self.view_is, height_of-folded h.sizes.generations h.sizes.height h.sizes.width h.cells.items c.self.invariant.generations.0, c.self.invariant.height.1) in
    let x_small : c.loop-x.x < 2 ^ 31 = omega (arith, c.loop-x-test.true, c.self.invariant.width.1) in
    let number : c.nine.result ≡ number_of (nine c.args.rule.now c.loop-x.self c.args.t (pos c.args.y) (pos c.loop-x.x)) =
    rw (to_z_pos w32 c.args.y y_small, to_z_pos w32 c.loop-x.x x_small) at c.nine.ensures.number in
    c.set.ensures ∙ cell_more c.args.rule.now old c.loop-x.self c.args.t c.args.y c.loop-x.x c.next-live.result sizes c.requires.generation c.requires.row x_in c.loop-x.invariant
    (c.next-live.ensures.answers ∙ ap (answer c.args.rule.now) number)

pub returns : goal.returns
returns c =
    let h = c.self.inside in
    let old = c.args.self.now in
    let table = c.args.rule.now in
    let Sized : History → Type 0 = λ history. HasSizes (length history) (height_of history) (width_of history) history in
    let sizes = subst Sized c.self.view_is (HasSizes-folded h.sizes.generations h.sizes.height h.sizes.width h.cells.items c.self.invariant.generations.0 c.self.invariant.height.0) in
    let row = successor_row table old c.args.t c.args.y in
    let before = get_or (rows_at old (c.args.t + 1)) c.args.y [] in
    let width : h.sizes.width ≡ width_of old = sym (width_of-folded h.sizes.generations h.sizes.height h.sizes.width h.cells.items c.self.invariant.generations.0 c.self.invariant.height.0) ∙ ap width_of c.self.view_is in
    let new_past : length row ≤ c.loop-x.x =
    omega (arith, c.loop-x-test.false, width, length-map-range_with_len (λ x. successor table (nine table old c.args.t (pos c.args.y) (pos x))) 0 (width_of old)) in
    let old_past : length before ≤ c.loop-x.x =
    omega (arith, c.loop-x-test.false, width, cells_count (length old) (height_of old) (width_of old) (c.args.t + 1) c.args.y old sizes c.requires.generation c.requires.row) in
    c.loop-x.invariant ∙ ap (with_row old (c.args.t + 1) c.args.y) (mixed_all row before c.loop-x.x new_past old_past)
