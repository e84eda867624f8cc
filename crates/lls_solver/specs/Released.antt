-- For private contracts alone: the variables of the last entries of a trail are put back into an order.
use Rattle.std.specs.Prelude.{◌≡◌, true, ℕ, List, All, drop}
use Rattle.lls_lit.specs.Literal.{variable_of}
use Rattle.lls_store.specs.Trail.{Entry}
use Rattle.lls_order.specs.Order.{OrderState, is_in}

-- those of the entries from a place on are in
abbrev pub AreReleased : List Entry → OrderState → ℕ → Type 0
AreReleased entries order k = All (λ e. is_in order (variable_of e.lit) ≡ true) (drop k entries)
