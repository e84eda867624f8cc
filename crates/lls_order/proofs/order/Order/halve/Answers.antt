use Rattle.std.proofs.Common.{◌≡◌, ◌/◌, ℕ, length, map, get_or, subst, sym, ◌∙◌, ap, arith}
use Rattle.std.proofs.lemmas.List.{with_items_is, get_or_read, length-map}
use Rattle.lls_order.specs.Queue.{AreLinks, HasEach, rank_of}
use Rattle.lls_order.proofs.Parts.{AreParts-halved, distinct_ranks}
use Rattle.lls_order.proofs.Sorting.{HasEach-previous}
use Rattle.lls_order.proofs.order.Order.halve.Goals as goal

pub link_by_rank-requires-clause-each : goal.link_by_rank-requires-clause-each
link_by_rank-requires-clause-each c =
    let m = c.self.inside in
    let halves = c.halve_all.new.activities in
    let halves_len : length halves ≡ m.activities.len = c.halve_all.auto.activities ∙ c.deref_mut.ensures.len in
    let handed : c.deref.result.now ≡ halves = c.deref.ensures.value ∙ with_items_is m.activities halves halves_len in
    let vars : m.vars ≡ length c.deref.result.now = sym (ap length handed ∙ c.halve_all.auto.activities ∙ ap length c.deref_mut.ensures.value ∙ c.self.invariant.activity_each) in
    let each : HasEach m.vars m.previous.items =
    HasEach-previous (rank_of m.activities.items) m.vars m.previous.items m.next.items
    (distinct_ranks m.vars m.activities.items m.inside.items m.previous.items m.next.items m.cursor m.top c.self.invariant) c.self.invariant.links in
    subst (λ n. HasEach n c.deref_mut-2.result.now) vars (subst (λ ps. HasEach m.vars ps) (sym c.deref_mut-2.ensures.value) each)

pub invariant_of-self : goal.invariant_of-self
invariant_of-self c =
    let m = c.self.inside in
    let halves = c.halve_all.new.activities in
    let new = c.link_by_rank.new.previous in
    let after = c.link_by_rank.new.next in
    let halved = map (λ (a : ℕ). a / 2) m.activities.items in
    let is : halves ≡ halved = c.halve_all.ensures ∙ ap (map (λ (a : ℕ). a / 2)) c.deref_mut.ensures.value in
    let halves_len : length halves ≡ m.activities.len = c.halve_all.auto.activities ∙ c.deref_mut.ensures.len in
    let new_is = with_items_is m.previous new (c.link_by_rank.auto.previous ∙ c.deref_mut-2.ensures.len) in
    let handed : c.deref.result.now ≡ halved = c.deref.ensures.value ∙ with_items_is m.activities halves halves_len ∙ is in
    let vars : length c.deref.result.now ≡ m.vars = ap length handed ∙ length-map m.activities.items (λ (a : ℕ). a / 2) ∙ c.self.invariant.activity_each in
    let links : AreLinks (rank_of halved) m.vars new after =
    subst (λ n. AreLinks (rank_of halved) n new after) vars (subst (λ xs. AreLinks (rank_of xs) (length c.deref.result.now) new after) handed c.link_by_rank.ensures) in
    let cursor : c.index.result.now ≡ get_or new 0 0 = get_or_read new 0 c.index.result.now (omega (arith, links.previous_each)) (c.index.ensures ∙ ap (λ ps. get_or ps 0 c.index.result.now) new_is) 0 in
    rw (with_items_is m.activities halves halves_len, new_is, with_items_is m.next after (c.link_by_rank.auto.next ∙ c.deref_mut-3.ensures.len), is, cursor)
    (AreParts-halved m.vars m.activities.items m.inside.items m.previous.items m.next.items m.cursor m.top c.self.invariant new after links)
