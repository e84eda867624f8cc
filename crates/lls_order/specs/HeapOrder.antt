-- An order of variables by activities that bumps add to: what is seen of it, and what changes it.
use Rattle.std.specs.Prelude.{ℕ, ◌+◌, ◌-◌, ◌/◌, ◌^◌, max, map, slice_set, nat_le, if◌then◌else◌}
use Rattle.lls_order.specs.declared.order.TheConstants.{MOST_ACTIVITY}
use Rattle.lls_order.specs.declared.heap_order.TheConstants.{FIRST_AMOUNT, SCALE, SCALED_ABOVE}
use Rattle.lls_order.specs.Order.{OrderState, activity_of}
use Rattle.lls_order.specs.Changes as order_changes

-- an order, in which no activity is greater than the greatest that there may be, and what a bump adds
pub record HeapState : Type 0 where
  pub order : OrderState
  pub amount : ℕ

-- all variables are in, without activity
abbrev pub new_heap : ℕ → HeapState
new_heap vars = record { order = record (order_changes.new_order vars) { top = MOST_ACTIVITY }; amount = FIRST_AMOUNT }

abbrev pub put_in : HeapState → ℕ → HeapState
put_in heap v = record heap { order = order_changes.put_in heap.order v }

abbrev pub taken_out : HeapState → ℕ → HeapState
taken_out heap v = record heap { order = order_changes.taken_out heap.order v }

-- the amount is added to a variable's activity
abbrev pub raised : HeapState → ℕ → HeapState
raised heap v = record heap { order = record heap.order { activities = slice_set heap.order.activities (v - 1) (activity_of heap.order v + heap.amount) } }

-- all activities and the amount are divided by a power of two, rounding down; the amount stays at least 1
abbrev pub scaled_down : HeapState → ℕ → HeapState
scaled_down heap power = record { order = record heap.order { activities = map (λ a. a / 2 ^ power) heap.order.activities }; amount = max (heap.amount / 2 ^ power) 1 }

-- the amount is added, after all is halved where the sum would be too great
abbrev pub bumped : HeapState → ℕ → HeapState
bumped heap v = if nat_le (activity_of heap.order v + heap.amount) MOST_ACTIVITY then raised heap v else raised (scaled_down heap 1) v

-- a fiftieth and 1 is added to the amount
abbrev pub more : HeapState → HeapState
more heap = record heap { amount = heap.amount + (heap.amount / 50 + 1) }

-- the amount grows, after all is scaled down where it is too great
abbrev pub grown : HeapState → HeapState
grown heap = if nat_le heap.amount SCALED_ABOVE then more heap else more (scaled_down heap SCALE)
