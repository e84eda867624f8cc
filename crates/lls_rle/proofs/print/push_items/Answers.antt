use Rattle.std.proofs.Common.{◌∙◌, ◌++◌, ap, sym, arith}
use Rattle.std.proofs.lemmas.List.{drop_all}
use Rattle.lls_rle.specs.Printing.{wrapped}
use Rattle.lls_rle.proofs.Wrapping.{texts_from, pushed_all}
use Rattle.lls_rle.proofs.print.push_items.Goals as goal

pub returns : goal.returns
returns c =
    let items = c.args.items.now in
    let text = c.loop-item.text.items in
    let whole = ap (λ rest. text ++ wrapped c.loop-item.used (texts_from rest)) (sym (drop_all c.loop-item.item-index items (omega arith))) ∙ c.loop-item.invariant.whole in
    rw c.in_ok-extend_from_slice.ensures.items (pushed_all c.args.text.now.items items text c.make_room.new.text.items c.loop-item.used whole c.in_ok-make_room.ensures.text)
