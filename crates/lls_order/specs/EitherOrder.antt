-- An order of either kind, and what changes it.
use Rattle.std.specs.Prelude.{ℕ, Option, Some, None}
use Rattle.lls_order.specs.declared.either_order.Kind.{Kind}
use Rattle.lls_order.specs.declared.either_order.Kind.TheVariants as kinds
use Rattle.lls_order.specs.Order.{OrderState}
use Rattle.lls_order.specs.HeapOrder.{HeapState}
use Rattle.lls_order.specs.Changes as queue
use Rattle.lls_order.specs.HeapOrder as heap

-- an order, and what a bump adds where it is a heap; in a queue each bump adds what is needed to come first
pub record EitherState : Type 0 where
  pub order : OrderState
  pub amount : Option ℕ

abbrev pub of_heap : HeapState → EitherState
of_heap state = record { order = state.order; amount = Some state.amount }

abbrev pub state_of : Kind → EitherState
state_of (kinds.Queue order) = record { order = order; amount = None }
state_of (kinds.Heap order) = of_heap order

abbrev bumped_by : Option ℕ → OrderState → ℕ → EitherState
bumped_by None order v = record { order = queue.bumped order v; amount = None }
bumped_by (Some amount) order v = of_heap (heap.bumped (record { order = order; amount = amount }) v)

-- a variable is bumped as its kind of order does it
abbrev pub bumped : EitherState → ℕ → EitherState
bumped state v = bumped_by state.amount state.order v

abbrev grown_by : Option ℕ → OrderState → EitherState
grown_by None order = record { order = order; amount = None }
grown_by (Some amount) order = of_heap (heap.grown (record { order = order; amount = amount }))

-- what a bump adds grows, as its kind of order does it
abbrev pub grown : EitherState → EitherState
grown state = grown_by state.amount state.order

abbrev pub put_in : EitherState → ℕ → EitherState
put_in state v = record state { order = queue.put_in state.order v }

abbrev pub taken_out : EitherState → ℕ → EitherState
taken_out state v = record state { order = queue.taken_out state.order v }
