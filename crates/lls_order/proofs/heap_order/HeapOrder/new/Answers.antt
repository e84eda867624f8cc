use Rattle.std.proofs.Common.{◌≡◌, Bool, List, replicate, ap, ◌∙◌, rules}
use Rattle.lls_order.specs.declared.order.TheConstants.{MOST_ACTIVITY}
use Rattle.lls_order.specs.declared.heap_order.TheConstants.{FIRST_AMOUNT}
use Rattle.lls_order.specs.Heap.{heap_in}
use Rattle.lls_order.proofs.HeapParts.{inside_of-all}
use Rattle.lls_order.proofs.heap_order.HeapOrder.new.Goals as goal

pub returns : goal.returns
returns c =
    let vars = c.args.vars in
    let places = c.in_ok-places.places.items in
    let zeros : c.in_ok-activities.activities.items ≡ replicate vars 0 = search rules in
    ap (λ activities. heap_in vars activities vars places FIRST_AMOUNT) zeros
    ∙ ap (λ (bs : List Bool). record { order = record { vars = vars; activities = replicate vars 0; inside = bs; top = MOST_ACTIVITY }; amount = FIRST_AMOUNT }) (inside_of-all vars places c.in_ok-places.ensures.len c.in_ok-places.ensures.own_place)
