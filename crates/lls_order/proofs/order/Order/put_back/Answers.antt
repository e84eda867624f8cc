use Rattle.std.proofs.Common.{◌≡◌, ◌<◌, ◌≤◌, true, length, set, subst, ap, inl, inr, arith}
use Rattle.lls_order.specs.Order.{OrderState, is_in}
use Rattle.lls_order.specs.Queue.{AreParts, order_in, rank_of}
use Rattle.lls_order.proofs.Cursor.{IsCursor-set_other}
use Rattle.lls_order.proofs.Parts.{AreParts-with, is_in-put_in}
use Rattle.lls_order.proofs.order.Order.put_back.Goals as goal

pub invariant_of-self : goal.invariant_of-self
invariant_of-self c =
    let m = c.self.inside in
    let v = c.args.var in
    let new = c.foremost-self-inside.result in
    let f = rank_of m.activities.items in
    let some : 0 < v = omega (arith, c.index.ensures.variable.0) in
    let most : c.args.var ≤ m.vars = rw (ap (λ (s : OrderState). s.vars) c.self.view_is) c.requires in
    let v_in : v ≤ m.vars = most in
    let new_in : new ≤ m.vars = elim c.foremost-self-inside.ensures.among [ inl e ↦ omega (arith, e, v_in) | inr e ↦ omega (arith, e, c.self.invariant.is_cursor.fits) ] in
    let its : f v ≤ f new = subst (λ xs. rank_of xs v ≤ rank_of xs new) c.deref.ensures.value c.foremost-self-inside.ensures.var in
    let other : f m.cursor ≤ f new = subst (λ xs. rank_of xs m.cursor ≤ rank_of xs new) c.deref.ensures.value c.foremost-self-inside.ensures.other in
    subst (λ i. AreParts m.vars m.activities.items (set m.inside.items i true) m.previous.items m.next.items new m.top) (omega (arith, c.index.ensures.place))
    (AreParts-with m.vars m.activities.items m.inside.items m.previous.items m.next.items m.cursor m.top c.self.invariant v _ new
    (IsCursor-set_other f m.vars m.inside.items m.cursor v _ new some new_in its other c.self.invariant.is_cursor))

pub returns-clause-stands : goal.returns-clause-stands
returns-clause-stands c =
    let m = c.self.inside in
    let v = c.args.var in
    let order = order_in m.vars m.activities.items m.inside.items m.top in
    let most : c.args.var ≤ m.vars = rw (ap (λ (s : OrderState). s.vars) c.self.view_is) c.requires in
    let within : v ≤ length m.inside.items = omega (arith, most, c.self.invariant.inside_each) in
    subst (λ i. is_in (record order { inside = set m.inside.items i true }) v ≡ true) (omega (arith, c.index.ensures.place)) (is_in-put_in order v (omega (arith, c.index.ensures.variable.0)) within)
