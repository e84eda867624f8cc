use Rattle.std.proofs.Common.{Some, ap, arith, ◌∙◌}
use Rattle.lls_watch.proofs.Numbers.{counted_dead, counted_live}
use Rattle.lls_watch.proofs.compaction.count_live.Goals as goal
use Rattle.lls_watch.proofs.compaction.count_live.Goals.{then-live, else-live}

pub loop-number-preserved : goal.loop-number-preserved
loop-number-preserved c =
    let heads = c.args.arena.now.heads in
    let low = c.loop-number.invariant.0 in
    elim c.if-live.branch [
      | then-live w ↦ (
        omega (arith, w.count-is, low),
        w.count-is ∙ counted_live heads c.args.numbers.now c.loop-number.number-index c.loop-number.count c.loop-number-test.true (c.live.ensures ∙ ap Some w.if-live.true) c.loop-number.invariant.1,
      )
      | else-live w ↦ (
        omega (arith, w.count-is, low),
        w.count-is ∙ counted_dead heads c.args.numbers.now c.loop-number.number-index c.loop-number.count c.loop-number-test.true (c.live.ensures ∙ ap Some w.if-live.false) c.loop-number.invariant.1,
      )
    ]
