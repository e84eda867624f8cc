use Rattle.std.proofs.Common.{◌≡◌, ◌-◌, ◌+◌, length, subst, ◌∙◌, arith}
use Rattle.lls_order.specs.Queue.{HasEach, rank_of}
use Rattle.lls_order.proofs.Links.{AreDistinct}
use Rattle.lls_order.proofs.Sorting.{AreLinks-sorted, HasEach-next, HasEach-permutation}
use Rattle.lls_order.proofs.Ranks.{rank_of-distinct, rank_of-none}
use Rattle.lls_order.proofs.queue.link_by_rank.Goals as goal

pub link_in_turn-requires : goal.link_in_turn-requires
link_in_turn-requires c =
    let vars = length c.args.activities.now in
    let each : HasEach vars c.sort_by_rank.new.numbers = HasEach-permutation vars c.args.previous.now c.sort_by_rank.new.numbers c.requires.each c.sort_by_rank.ensures.same in
    let most : vars ≡ length c.args.next.now - 1 = omega (arith, c.requires.same) in
    record { each = subst (λ n. HasEach n c.sort_by_rank.new.numbers) most each; some = omega (arith, c.requires.same) }

pub link_back-requires-clause-each : goal.link_back-requires-clause-each
link_back-requires-clause-each c =
    let activities = c.args.activities.now in
    let vars = length activities in
    let numbers = c.sort_by_rank.new.numbers in
    let next = c.link_in_turn.new.next in
    let distinct : AreDistinct (rank_of activities) vars = λ x y x_in y_in. rank_of-distinct activities x y (omega (arith, x_in, c.requires.few)) (omega (arith, y_in, c.requires.few)) in
    let each : HasEach vars numbers = HasEach-permutation vars c.args.previous.now numbers c.requires.each c.sort_by_rank.ensures.same in
    let next_each : length next ≡ vars + 1 = c.link_in_turn.auto.next ∙ c.requires.same in
    let most : vars ≡ length next - 1 = omega (arith, next_each) in
    subst (λ n. HasEach n next) most (HasEach-next (rank_of activities) vars distinct (rank_of-none activities) numbers next each c.sort_by_rank.ensures.sorted c.link_in_turn.ensures next_each)

pub returns : goal.returns
returns c =
    let activities = c.args.activities.now in
    let vars = length activities in
    let numbers = c.sort_by_rank.new.numbers in
    let next = c.link_in_turn.new.next in
    let distinct : AreDistinct (rank_of activities) vars = λ x y x_in y_in. rank_of-distinct activities x y (omega (arith, x_in, c.requires.few)) (omega (arith, y_in, c.requires.few)) in
    let each : HasEach vars numbers = HasEach-permutation vars c.args.previous.now numbers c.requires.each c.sort_by_rank.ensures.same in
    let next_each : length next ≡ vars + 1 = c.link_in_turn.auto.next ∙ c.requires.same in
    let previous_each : length c.link_back.new.previous ≡ vars + 1 = c.link_back.auto.previous ∙ each.each in
    AreLinks-sorted (rank_of activities) vars distinct (rank_of-none activities) numbers next each c.sort_by_rank.ensures.sorted c.link_in_turn.ensures next_each c.link_back.new.previous previous_each c.link_back.ensures
