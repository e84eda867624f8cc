-- What changes an order.
use Rattle.std.specs.Prelude.{ℕ, ◌+◌, ◌-◌, ◌/◌, true, false, map, replicate, slice_set, nat_lt, if◌then◌else◌}
use Rattle.lls_order.specs.declared.order.TheConstants.{MOST_ACTIVITY}
use Rattle.lls_order.specs.Order.{OrderState}

-- all variables are in, without activity
abbrev pub new_order : ℕ → OrderState
new_order vars = record { vars = vars; activities = replicate vars 0; inside = replicate vars true; top = 0 }

abbrev pub put_in : OrderState → ℕ → OrderState
put_in order v = record order { inside = slice_set order.inside (v - 1) true }

abbrev pub taken_out : OrderState → ℕ → OrderState
taken_out order v = record order { inside = slice_set order.inside (v - 1) false }

-- a variable's activity becomes the greatest that was given, and 1 more
abbrev pub raised : OrderState → ℕ → OrderState
raised order v = record order { activities = slice_set order.activities (v - 1) (order.top + 1); top = order.top + 1 }

-- all activities are halved, rounding down
abbrev pub halved : OrderState → OrderState
halved order = record order { activities = map (λ a. a / 2) order.activities; top = order.top / 2 }

-- a variable is raised, after all is halved where its activity would be too great
abbrev pub bumped : OrderState → ℕ → OrderState
bumped order v = if nat_lt order.top MOST_ACTIVITY then raised order v else raised (halved order) v
