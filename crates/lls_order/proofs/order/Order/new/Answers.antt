use Rattle.std.proofs.Common.{◌≡◌, ◌<◌, length, get_or, replicate, sym, subst, arith, rules}
use Rattle.std.proofs.lemmas.List.{get_or_read}
use Rattle.lls_order.specs.Queue.{AreParts}
use Rattle.lls_order.proofs.Parts.{AreParts-new}
use Rattle.lls_order.proofs.order.Order.new.Goals as goal

pub invariant_of-result : goal.invariant_of-result
invariant_of-result c =
    let vars = c.args.vars in
    let activities = c.in_ok-activities.activities.items in
    let inside = c.in_ok-inside.inside.items in
    let previous = c.in_ok-previous.previous.items in
    let next = c.in_ok-next.next.items in
    let zeros : activities ≡ replicate vars 0 = search rules in
    let inside_each : length inside ≡ vars = search rules in
    let some : 0 < length previous = omega (arith, c.in_ok-previous.ensures.len) in
    let cursor : c.index-cursor.result.now ≡ get_or previous 0 0 = get_or_read previous 0 c.index-cursor.result.now some c.index-cursor.ensures 0 in
    subst (λ n. AreParts vars activities inside previous next n 0) (sym cursor)
    (AreParts-new vars activities inside previous next c.requires zeros inside_each c.in_ok-previous.ensures.len c.in_ok-previous.ensures.each c.in_ok-previous.ensures.around c.in_ok-next.ensures.len c.in_ok-next.ensures.each c.in_ok-next.ensures.around)
