-- The row and the column that were found are those of the place.
use Rattle.std.proofs.Common.{◌≡◌, ◌<◌, get_or, false, None, Some, sym, ap, ◌∙◌, arith, to_z-of_z, length}
use Rattle.std.proofs.lemmas.List.{get_or_default}
use Rattle.lls_grid.specs.Place.{inside}
use Rattle.lls_grid.proofs.Folded.{length-folded, some_row, place_cell-folded, place_cell-folded_above, place_cell-folded_beside}
use Rattle.lls_grid.proofs.history.History.cell.Goals as goal

pub index-index-requires-clause-inside : goal.index-index-requires-clause-inside
index-index-requires-clause-inside c =
    let fits = c.ranges.y in
    let fits' = c.ranges.x in
    let row : inside c.args.y c.self.inside.sizes.height ≡ Some c.in_ok-row.row = simp to_z-of_z at (sym c.index_within.ensures ∙ c.in_ok-row.was) in
    let column : inside c.args.x c.self.inside.sizes.width ≡ Some c.in_ok-column.column = simp to_z-of_z at (sym c.index_within-2.ensures ∙ c.in_ok-column.was) in
    record {
      generation = omega (arith, ap length c.self.view_is, length-folded c.self.inside.sizes.generations c.self.inside.sizes.height c.self.inside.sizes.width c.self.inside.cells.items);
      row = (some_row c.args.y c.self.inside.sizes.height c.in_ok-row.row row).1;
      column = (some_row c.args.x c.self.inside.sizes.width c.in_ok-column.column column).1;
    }

pub returns-in_err-row : goal.returns-in_err-row
returns-in_err-row c =
    let fits = c.ranges.y in
    let row : inside c.args.y c.self.inside.sizes.height ≡ None = simp to_z-of_z at (sym c.index_within.ensures ∙ c.in_err-row.was) in
    let t_in : c.args.t < c.self.inside.sizes.generations = omega (arith, ap length c.self.view_is, length-folded c.self.inside.sizes.generations c.self.inside.sizes.height c.self.inside.sizes.width c.self.inside.cells.items) in
    c.from_residual.ensures ∙ rw (← c.self.view_is) (sym (place_cell-folded_above _ _ _ _ _ _ _ t_in row))

pub returns-in_err-column : goal.returns-in_err-column
returns-in_err-column c =
    let fits = c.ranges.y in
    let fits' = c.ranges.x in
    let row : inside c.args.y c.self.inside.sizes.height ≡ Some c.in_ok-row.row = simp to_z-of_z at (sym c.index_within.ensures ∙ c.in_ok-row.was) in
    let column : inside c.args.x c.self.inside.sizes.width ≡ None = simp to_z-of_z at (sym c.index_within-2.ensures ∙ c.in_err-column.was) in
    let t_in : c.args.t < c.self.inside.sizes.generations = omega (arith, ap length c.self.view_is, length-folded c.self.inside.sizes.generations c.self.inside.sizes.height c.self.inside.sizes.width c.self.inside.cells.items) in
    c.from_residual-in_err-column.ensures ∙ rw (← c.self.view_is) (sym (place_cell-folded_beside _ _ _ _ _ _ _ _ t_in row column))

pub returns : goal.returns
returns c =
    let fits = c.ranges.y in
    let fits' = c.ranges.x in
    let row : inside c.args.y c.self.inside.sizes.height ≡ Some c.in_ok-row.row = simp to_z-of_z at (sym c.index_within.ensures ∙ c.in_ok-row.was) in
    let column : inside c.args.x c.self.inside.sizes.width ≡ Some c.in_ok-column.column = simp to_z-of_z at (sym c.index_within-2.ensures ∙ c.in_ok-column.was) in
    let t_in : c.args.t < c.self.inside.sizes.generations = omega (arith, ap length c.self.view_is, length-folded c.self.inside.sizes.generations c.self.inside.sizes.height c.self.inside.sizes.width c.self.inside.cells.items) in
    let within : c.index-index.result < length c.self.inside.cells.items = omega (arith, c.self.invariant.count) in
    ap Some (c.index.ensures ∙ get_or_default _ _ _ _ within ∙ ap (λ k. get_or c.self.inside.cells.items k false) c.index-index.ensures.index)
    ∙ rw (← c.self.view_is) (sym (place_cell-folded _ _ _ _ _ _ _ _ _ t_in row column))
