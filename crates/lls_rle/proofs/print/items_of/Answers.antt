use Rattle.std.proofs.Common.{◌^◌, List, drop, sym, subst, arith}
use Rattle.lls_grid.specs.History.{rows_at}
use Rattle.lls_rle.specs.declared.item.Item.{Item}
use Rattle.lls_rle.specs.Printing.{items_of_rows, before_end}
use Rattle.lls_rle.specs.Stacked.{AreSmall}
use Rattle.lls_rle.proofs.ItemRows.{before_end-small, small_weaker, small_rows}
use Rattle.lls_rle.proofs.print.items_of.Goals as goal

pub push_end-requires : goal.push_end-requires
push_end-requires c =
    let P : List Item → Type 0 = λ items. AreSmall (2 ^ 31) items in
    let rows = drop c.loop-y.y (rows_at c.args.history.now c.args.t) in
    subst P (sym c.loop-y.invariant.1) (small_weaker 4160 (2 ^ 31) (items_of_rows rows) (omega arith) (small_rows c.args.history.now c.args.t c.loop-y.y c.sizes-y.ensures.kept c.requires))

pub push_row-requires-clause-small : goal.push_row-requires-clause-small
push_row-requires-clause-small c =
    let P : List Item → Type 0 = λ items. AreSmall (2 ^ 30) items in
    let rows = drop c.loop-y.y (rows_at c.args.history.now c.args.t) in
    let Q : List Item → Type 0 = λ items. AreSmall (2 ^ 30) (before_end items) in
    subst P (sym c.in_ok-push_end.ensures) (subst Q (sym c.loop-y.invariant.1) (small_weaker 4161 (2 ^ 30) (before_end (items_of_rows rows)) (omega arith) (before_end-small 4160 (items_of_rows rows) (small_rows c.args.history.now c.args.t c.loop-y.y c.sizes-y.ensures.kept c.requires))))
