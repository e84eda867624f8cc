use Rattle.lls_rle.proofs.Wrapping.{IsPushing}
use Rattle.lls_rle.proofs.print.push_items.Given as goal

abbrev pub invariant-loop-item : goal.invariant-loop-item
invariant-loop-item l = IsPushing l.initial.text.items l.items l.text.items l.used l.item-index
