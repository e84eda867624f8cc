use Rattle.std.proofs.Common.{◌/◌, ◌^◌, get_or, arith}
use Rattle.std.proofs.lemmas.List.{get_or_default}
use Rattle.std.proofs.lemmas.List.Edits.{map_over_more}
use Rattle.lls_order.proofs.heap_order.shift_all.Goals as goal

pub loop-activity-preserved : goal.loop-activity-preserved
loop-activity-preserved c =
    let activity = get_or c.loop-activity.activities c.loop-activity.activity-index 0 in
    map_over_more (λ a. a / 2 ^ c.args.power) c.args.activities.now c.loop-activity.activities c.loop-activity.activity-index activity (omega arith) c.loop-activity.invariant (get_or_default c.loop-activity.activities c.loop-activity.activity-index 0 activity (omega arith))
