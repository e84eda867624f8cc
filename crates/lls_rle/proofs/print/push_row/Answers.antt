use Rattle.std.proofs.Common.{◌≡◌, ◌+◌, ◌^◌, [], List, length, drop, get_or, reverse, sym, subst, arith, length-drop}
use Rattle.lls_grid.specs.History.{rows_at, height_of, width_of}
use Rattle.lls_grid.proofs.Steps.{cells_count}
use Rattle.lls_rle.specs.declared.item.Item.{Item}
use Rattle.lls_rle.specs.Printing.{before_row}
use Rattle.lls_rle.specs.Stacked.{AreSmall}
use Rattle.lls_rle.proofs.ItemRows.{before_row-small, small_weaker}
use Rattle.lls_rle.proofs.print.push_row.Goals as goal

pub push_cell-requires : goal.push_cell-requires
push_cell-requires c =
    let history = c.args.history.now in
    let row = get_or (rows_at history c.args.t) c.args.y [] in
    let cells = drop c.loop-x.x row in
    let below = reverse c.args.stack.now.items in
    let kept = c.sizes-x.ensures.kept in
    let long : length row ≡ width_of history = cells_count (length history) (height_of history) (width_of history) c.args.t c.args.y history kept.sizes c.requires.generation c.requires.row in
    let P : List Item → Type 0 = λ items. AreSmall (2 ^ 31) items in
    subst P (sym c.loop-x.invariant.1) (small_weaker (2 ^ 30 + length cells) (2 ^ 31) (before_row cells below) (omega (arith, length-drop c.loop-x.x row, long, kept.width.1)) (before_row-small (2 ^ 30) cells below c.requires.small))
