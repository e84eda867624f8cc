-- For private contracts alone: an order is kept as a binary heap.
--
-- The heap has all variables, each as its number less one; those that are in stand first. A second table has the place of each.
use Rattle.std.specs.Prelude.{◌≡◌, ◌≢◌, ◌<◌, ◌≤◌, ℕ, ◌+◌, ◌-◌, ◌*◌, ◌/◌, Bool, List, length, map, slice_index, nat_lt}
use Rattle.lls_lit.specs.declared.var.TheConstants.Var.{MOST}
use Rattle.lls_order.specs.declared.order.TheConstants.{MOST_ACTIVITY}
use Rattle.lls_order.specs.HeapOrder.{HeapState}

-- one number for activity and variable: the greater comes first
abbrev pub rank_of : List ℕ → ℕ → ℕ
rank_of activities v = slice_index activities v * MOST + (MOST - v)

-- what stands at each place, by its rank
abbrev pub ranks : List ℕ → List ℕ → ℕ → ℕ
ranks activities heap k = rank_of activities (slice_index heap k)

abbrev pub parent_of : ℕ → ℕ
parent_of k = (k - 1) / 2

-- none of the first places has more than its parent
pub record IsHeap (f : ℕ → ℕ) (count : ℕ) : Type 0 where
  pub kept : (k : ℕ) → 0 < k → k < count → f k ≤ f (parent_of k)

-- none has more than its parent but perhaps one place
pub record IsHeapButAt (f : ℕ → ℕ) (count at : ℕ) : Type 0 where
  pub others : (k : ℕ) → 0 < k → k < count → k ≢ at → f k ≤ f (parent_of k)
  pub across : (k : ℕ) → 0 < k → k < count → parent_of k ≡ at → 0 < at → f k ≤ f (parent_of at)

-- none has more than its parent but perhaps the children of one place
pub record IsHeapButBelow (f : ℕ → ℕ) (count at : ℕ) : Type 0 where
  pub others : (k : ℕ) → 0 < k → k < count → parent_of k ≢ at → f k ≤ f (parent_of k)
  pub across : (k : ℕ) → 0 < k → k < count → parent_of k ≡ at → 0 < at → f k ≤ f (parent_of at)

-- a child that has more than the place above it, and no less than any other child
pub record IsGreaterChild (f : ℕ → ℕ) (count at child : ℕ) : Type 0 where
  pub child_of : parent_of child ≡ at
  pub above_zero : 0 < child
  pub within : child < count
  pub greater : f at < f child
  pub greatest : (k : ℕ) → 0 < k → k < count → parent_of k ≡ at → f k ≤ f child

-- each table says where a number stands in the other
pub record AreInverse (heap places : List ℕ) : Type 0 where
  pub place_each : length places ≡ length heap
  pub number_fits : (k : ℕ) → k < length heap → slice_index heap k < length heap
  pub place_fits : (v : ℕ) → v < length heap → slice_index places v < length heap
  pub place_back : (k : ℕ) → k < length heap → slice_index places (slice_index heap k) ≡ k
  pub number_back : (v : ℕ) → v < length heap → slice_index heap (slice_index places v) ≡ v

-- each number in the heap has an activity
pub record AreNumbers (activities heap : List ℕ) : Type 0 where
  pub few : length activities ≤ MOST
  pub fits : (k : ℕ) → k < length heap → slice_index heap k < length activities

-- the tables have each variable
pub record AreTables (activities heap places : List ℕ) : Type 0 where
  pub few : length activities ≤ MOST
  pub number_each : length heap ≡ length activities
  pub inverse : AreInverse heap places

-- which variables stand at the first places
abbrev pub inside_of : ℕ → List ℕ → List Bool
inside_of count places = map (λ place. nat_lt place count) places

-- the same variables stand at the first places, wherever the cut is behind a place
abbrev pub SameInside : ℕ → List ℕ → List ℕ → Type 0
SameInside at old new = (count : ℕ) → at < count → inside_of count new ≡ inside_of count old

abbrev pub heap_in : ℕ → List ℕ → ℕ → List ℕ → ℕ → HeapState
heap_in vars activities count places amount = record { order = record { vars = vars; activities = activities; inside = inside_of count places; top = MOST_ACTIVITY }; amount = amount }

-- what holds of the parts of an order
pub record AreParts (vars : ℕ) (activities : List ℕ) (count : ℕ) (heap places : List ℕ) (amount : ℕ) : Type 0 where
  pub tables : AreTables activities heap places
  pub activity_each : length activities ≡ vars
  pub within : count ≤ vars
  pub is_heap : IsHeap (ranks activities heap) count
  pub least : 1 ≤ amount
  pub most : amount ≤ MOST_ACTIVITY
  pub activities_fit : (v : ℕ) → slice_index activities v ≤ MOST_ACTIVITY
