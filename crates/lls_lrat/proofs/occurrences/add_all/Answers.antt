use Rattle.lls_lrat.specs.Occurring.{count_at}
use Rattle.lls_lrat.proofs.Occurring.{counted_more}
use Rattle.lls_lrat.proofs.occurrences.add_all.Goals as goal

pub loop-lit-preserved : goal.loop-lit-preserved
loop-lit-preserved c = λ i.
    counted_more c.args.lits.now c.loop-lit.lit-index i c.lit-item.result (count_at c.args.counts.now.items i) (count_at c.loop-lit.counts.items i) (count_at c.increment.new.counts.items i)
    c.loop-lit-test.true c.lit-item.is c.index.ensures.literal (c.loop-lit.invariant i) (rw c.index.ensures.place at c.in_ok-increment.ensures i)
