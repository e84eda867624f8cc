use Rattle.std.proofs.Common.{◌≡◌, get_or, refl, arith}
use Rattle.std.proofs.lemmas.Bool.Decides.{nat_tests}
use Rattle.lls_lit.specs.Literal.{index_of}
use Rattle.lls_lrat.specs.Occurring.{count_at}
use Rattle.lls_lrat.proofs.Occurring.{takes_none, takes_on, all_taken}
use Rattle.lls_lrat.proofs.live.are_all.Goals as goal
use Rattle.lls_lrat.proofs.live.are_all.Goals.{then-id-last, else-id-last}

pub loop-id-preserved : goal.loop-id-preserved
loop-id-preserved c = elim c.if-id-last.branch [
  | then-id-last w ↦
      let id = get_or c.args.ids.now c.loop-id.id-index 0 in
      rw (w.left-is, w.last-is, w.saturating_sub-left.ensures)
      (takes_on c.args.lit c.args.stored.now.all c.args.ids.now (count_at c.args.counts.now (index_of c.args.lit)) c.loop-id.last c.loop-id.left id w.times_by.result c.loop-id.id-index c.loop-id.invariant w.if-id-last.true c.loop-id-test.true refl w.times_by.ensures)
  | else-id-last w ↦ rw (w.left-is, w.last-is) c.loop-id.invariant
]

pub returns : goal.returns
returns c = λ zero.
    all_taken c.args.lit c.args.stored.now.all c.args.ids.now c.args.counts.now c.loop-id.last c.loop-id.left c.get-left.ensures.literal c.requires c.loop-id.invariant (let none : c.loop-id.left ≡ 0 = grind (arith, nat_tests, zero) in none)

pub loop-id-init : goal.loop-id-init
loop-id-init c = rw c.get-left.ensures.count (takes_none c.args.lit c.args.stored.now.all c.args.ids.now (count_at c.args.counts.now (index_of c.args.lit)))
