use Rattle.std.proofs.Common.{◌≡◌, ◌+◌, ◌-◌, ◌<◌, ◌≤◌, Bool, List, length, set, subst, ◌∙◌, ap, arith}
use Rattle.std.proofs.lemmas.List.{with_items_is}
use Rattle.lls_order.specs.declared.order.TheConstants.{MOST_ACTIVITY}
use Rattle.lls_order.specs.Order.{OrderState}
use Rattle.lls_order.specs.Queue.{AreLinks, cursor_moved, rank_of}
use Rattle.lls_order.proofs.Parts.{AreParts-raised}
use Rattle.lls_order.proofs.order.Order.raise.Goals as goal

pub invariant_of-self : goal.invariant_of-self
invariant_of-self c =
    let m = c.self.inside in
    let v = c.args.var in
    let new = c.raise.new.previous in
    let after = c.raise.new.next in
    let raised = set m.activities.items (v - 1) (m.top + 1) in
    let some : 0 < v = omega (arith, c.raise.ensures.variable.0) in
    let most : c.args.var ≤ m.vars = rw (ap (λ (s : OrderState). s.vars) c.self.view_is) c.requires.within in
    let v_in : v ≤ m.vars = most in
    let room : m.top < MOST_ACTIVITY = rw (ap (λ (s : OrderState). s.top) c.self.view_is) c.requires.room in
    let is : c.raise.new.activities ≡ raised = c.raise.ensures.activities ∙ ap (λ xs. set xs (v - 1) (m.top + 1)) c.deref_mut.ensures.value in
    let vars : length c.deref_mut.result.now ≡ m.vars = ap length c.deref_mut.ensures.value ∙ c.self.invariant.activity_each in
    let links : AreLinks (rank_of raised) m.vars new after =
    subst (λ xs. AreLinks (rank_of xs) m.vars new after) is (subst (λ n. AreLinks (rank_of c.raise.new.activities) n new after) vars c.raise.ensures.links) in
    let cursor : c.cursor_behind-self-inside.result ≡ cursor_moved m.inside.items m.previous.items m.cursor v =
    c.cursor_behind-self-inside.ensures
    ∙ ap (λ (bs : List Bool). cursor_moved bs c.deref-2.result.now m.cursor v) c.deref.ensures.value
    ∙ ap (λ ps. cursor_moved m.inside.items ps m.cursor v) c.deref-2.ensures.value in
    rw (
      with_items_is m.activities c.raise.new.activities (c.raise.auto.activities ∙ c.deref_mut.ensures.len),
      with_items_is m.previous new (c.raise.auto.previous ∙ c.deref_mut-2.ensures.len),
      with_items_is m.next after (c.raise.auto.next ∙ c.deref_mut-3.ensures.len),
      is,
      cursor,
    )
    (AreParts-raised m.vars m.activities.items m.inside.items m.previous.items m.next.items m.cursor m.top c.self.invariant v new after some v_in room links)
