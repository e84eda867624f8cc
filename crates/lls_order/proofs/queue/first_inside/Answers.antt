use Rattle.std.proofs.Common.{◌≡◌, ◌∙◌, false, length, get_or, arith}
use Rattle.lls_order.specs.Queue.{rank_of, stands_in}
use Rattle.lls_order.proofs.Cursor.{IsCursor-step, stands_in-at}
use Rattle.lls_order.proofs.Ranks.{rank_of-distinct}
use Rattle.lls_order.proofs.queue.first_inside.Goals as goal

pub loop-number-preserved : goal.loop-number-preserved
loop-number-preserved c =
    let activities = c.args._activities.now in
    let number = c.loop-number.number in
    let out : stands_in c.args.inside.now number ≡ false = stands_in-at c.args.inside.now number (omega (arith, c.loop-number-test.true)) ∙ c.if-not-inside-number.true in
    IsCursor-step (rank_of activities) (length activities) c.args.inside.now number (get_or c.args.previous.now number 0)
    (λ x y x_in y_in. rank_of-distinct activities x y (omega (arith, x_in, c.requires.few)) (omega (arith, y_in, c.requires.few)))
    (c.requires.before number c.loop-number.invariant.fits) out c.loop-number.invariant

pub loop-number-smaller : goal.loop-number-smaller
loop-number-smaller c =
    let number = c.loop-number.number in
    (c.requires.before number c.loop-number.invariant.fits).lesser (omega (arith, c.loop-number-test.true))
