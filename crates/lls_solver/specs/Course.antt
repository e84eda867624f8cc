-- Values of variables, and an order that has the variables without one.
use Rattle.std.specs.Prelude.{◌≡◌, ◌≢◌, ◌≤◌, ℕ, ℤ, pos, true, List}
use Rattle.lls_lit.specs.Literal.{variable_of}
use Rattle.lls_lit.specs.Formula.{is_literal_of}
use Rattle.lls_store.specs.Trail.{Entry, TrailState, IsTrail, IsUnset}
use Rattle.lls_store.specs.Changes.{decided}
use Rattle.lls_store.specs.Clauses.{LiveClause}
use Rattle.lls_store.specs.Closed.{IsClosed, AreSettled, entries_below}
use Rattle.lls_store.specs.Sound.{IsSound}
use Rattle.lls_store.specs.Store.{StoreState}
use Rattle.lls_order.specs.Order.{OrderState, is_in}

-- each literal without a value is one of a variable that is in the order
abbrev pub AreWaiting : List Entry → OrderState → Type 0
AreWaiting entries order = (l : ℤ) → is_literal_of order.vars l ≡ true → IsUnset entries l → is_in order (variable_of l) ≡ true

-- but perhaps those of one variable
abbrev pub AreWaitingBut : ℕ → List Entry → OrderState → Type 0
AreWaitingBut v entries order =
    (l : ℤ) → is_literal_of order.vars l ≡ true → variable_of l ≢ v → IsUnset entries l → is_in order (variable_of l) ≡ true

-- every variable has a value
abbrev pub AllSet : ℕ → List Entry → Type 0
AllSet vars entries = (l : ℤ) → is_literal_of vars l ≡ true → ¬ IsUnset entries l

-- a trail, an order that has what it lacks, and for each variable a value that it had last, and when it was bumped last
pub record IsCourse (trail : TrailState) (order : OrderState) (phases bumped : ℕ) : Type 0 where
  pub is_trail : IsTrail trail
  pub order_vars : order.vars ≡ trail.vars
  pub phase_each : phases ≡ trail.vars
  pub bumped_each : bumped ≡ trail.vars
  pub waiting : AreWaiting trail.entries order

-- a variable that has no value, and is the only one that neither has one nor waits
pub record IsNext (vars : ℕ) (entries : List Entry) (order : OrderState) (v : ℕ) : Type 0 where
  pub within : v ≤ vars
  pub unset : IsUnset entries (pos v)
  pub others : AreWaitingBut v entries order

-- some literal without a value was decided
pub record IsDecision (old new : TrailState) : Type 0 where
  pub literal : ℤ
  pub unset : IsUnset old.entries literal
  pub is_decided : new ≡ decided old literal

-- before each level began, propagation had nothing to do
abbrev pub AreClosedBelow : List LiveClause → TrailState → Type 0
AreClosedBelow live trail = (level : ℕ) → 1 ≤ level → level ≤ trail.current → AreSettled live (entries_below level trail.entries)

-- a trail over a store's clauses whose reasons are sound, and each of whose levels began where propagation had nothing to do
pub record IsOnCourse (store : StoreState) (trail : TrailState) : Type 0 where
  pub sound : IsSound store.live trail
  pub closed_below : AreClosedBelow store.live trail

-- nothing is left to decide or to propagate
pub record IsComplete (store : StoreState) (trail : TrailState) : Type 0 where
  pub closed : IsClosed store.live trail
  pub all_set : AllSet store.vars trail.entries
