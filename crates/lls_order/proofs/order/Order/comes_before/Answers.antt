use Rattle.std.proofs.Common.{◌≡◌, ◌≤◌, ◌∙◌, ap, arith}
use Rattle.std.specs.Prelude.{nat_lt}
use Rattle.lls_order.specs.Order.{OrderState}
use Rattle.lls_order.specs.Queue.{rank_of}
use Rattle.lls_order.proofs.Ranks.{compared}
use Rattle.lls_order.proofs.order.Order.comes_before.Goals as goal

pub returns : goal.returns
returns c =
    let m = c.self.inside in
    let f = rank_of m.activities.items in
    let first : c.args.first ≤ m.vars = rw (ap (λ (s : OrderState). s.vars) c.self.view_is) c.requires.first in
    let second : c.args.second ≤ m.vars = rw (ap (λ (s : OrderState). s.vars) c.self.view_is) c.requires.second in
    let is : c.is_greater.result ≡ nat_lt (f c.args.second) (f c.args.first) =
    c.is_greater.ensures.greater ∙ ap (λ xs. nat_lt (rank_of xs c.number.result) (rank_of xs c.args.first)) c.deref.ensures.value ∙ ap (λ n. nat_lt (f n) (f c.args.first)) c.number.ensures.number in
    rw (is, ← c.self.view_is)
    (compared m.activities.items c.args.first c.args.second (omega (arith, c.is_greater.ensures.variable.0)) (omega (arith, c.number.ensures.variable.0, c.number.ensures.number)) (omega (arith, first, c.self.invariant.few)) (omega (arith, second, c.self.invariant.few)))
