use Rattle.std.proofs.Common.{ℕ, Bool, cond, sym, ap, arith}
use Rattle.lls_lrat.proofs.Occurring.{times_more}
use Rattle.lls_lrat.proofs.occurrences.times_in.Goals as goal
use Rattle.lls_lrat.proofs.occurrences.times_in.Goals.{then-eq, else-eq}

abbrev if_one : Bool → ℕ
if_one b = cond b 1 0

pub loop-other-preserved : goal.loop-other-preserved
loop-other-preserved c =
    let k = c.loop-other.other-index in
    let more = times_more c.args.lit c.args.clause.now k c.other-item.result c.loop-other-test.true c.other-item.is in
    let before = c.loop-other.invariant in
    elim c.if-eq.branch [
      | then-eq w ↦
          let one = ap (λ b. if_one b) (sym w.if-eq.ensures) in
          (omega (arith, w.times-is, more, before.0, one), omega (arith, w.times-is, before.1))
      | else-eq w ↦
          let none = ap (λ b. if_one b) (sym w.if-eq.ensures) in
          (omega (arith, w.times-is, more, before.0, none), omega (arith, w.times-is, before.1))
    ]
