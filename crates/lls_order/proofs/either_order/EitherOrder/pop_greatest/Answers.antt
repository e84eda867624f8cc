use Rattle.std.proofs.Common.{◌≡◌, ◌↔◌, None, Option, ℕ, ap, subst, sym, ◌∙◌}
use Rattle.lls_order.specs.Order.{IsEmpty}
use Rattle.lls_order.specs.EitherOrder.{EitherState, state_of}
use Rattle.lls_order.proofs.either_order.EitherOrder.pop_greatest.Goals as goal
use Rattle.lls_order.proofs.either_order.EitherOrder.pop_greatest.Goals.{in-Queue, in-Heap}

pub returns-clause-none : goal.returns-clause-none
returns-clause-none c = elim c.match-self.branch [
  | in-Queue w ↦ subst P (ap state_of (sym w.in-Queue.is) ∙ c.self.view_is) (subst (λ (o : Option ℕ). (o ≡ None) ↔ IsEmpty w.in-Queue.order) (sym w.result-is) w.pop_greatest.ensures.none)
  | in-Heap w ↦ subst P (ap state_of (sym w.in-Heap.is) ∙ c.self.view_is) (subst (λ (o : Option ℕ). (o ≡ None) ↔ IsEmpty w.in-Heap.order.order) (sym w.result-is) w.pop_greatest-in-Heap.ensures.none)
] where
  P : EitherState → Type 0
  P s = (c.match-self.result ≡ None) ↔ IsEmpty s.order
