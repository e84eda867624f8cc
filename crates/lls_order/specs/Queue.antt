-- For private contracts alone: an order is kept as a queue.
--
-- The queue is a ring of two links a variable, by rank. 0, which is no variable, stands between the last and the first.
use Rattle.std.specs.Prelude.{◌≡◌, ◌<◌, ◌≤◌, ℕ, zero, suc, ◌+◌, ◌-◌, ◌*◌, Bool, false, List, length, slice_index, slice_index_or, slice_set, nat_eq, if◌then◌else◌}
use Rattle.std.specs.List.{Contains}
use Rattle.lls_lit.specs.declared.var.TheConstants.Var.{MOST}
use Rattle.lls_order.specs.declared.order.TheConstants.{MOST_ACTIVITY}
use Rattle.lls_order.specs.Order.{OrderState}

-- one number for activity and variable: the greater comes first; 0 has the least
abbrev pub rank_of : List ℕ → ℕ → ℕ
rank_of activities zero = 0
rank_of activities (suc n) = slice_index activities n * MOST + (MOST - n)

-- among the numbers of lesser rank the second has the greatest; to 0 all are of lesser rank
pub record IsPrevious (f : ℕ → ℕ) (vars v w : ℕ) : Type 0 where
  pub fits : w ≤ vars
  pub lesser : 0 < v → f w < f v
  pub greatest : (x : ℕ) → x ≤ vars → (0 < v → f x < f v) → f x ≤ f w

-- each number leads to the next of lesser rank, and to that of greater
pub record AreLinks (f : ℕ → ℕ) (vars : ℕ) (previous next : List ℕ) : Type 0 where
  pub previous_each : length previous ≡ vars + 1
  pub next_each : length next ≡ vars + 1
  pub next_fits : (v : ℕ) → v ≤ vars → slice_index next v ≤ vars
  pub before : (v : ℕ) → v ≤ vars → IsPrevious f vars v (slice_index previous v)
  pub after : (v : ℕ) → v ≤ vars → IsPrevious f vars (slice_index next v) v

-- the list has each number up to the last variable, once
pub record HasEach (vars : ℕ) (numbers : List ℕ) : Type 0 where
  pub each : length numbers ≡ vars + 1
  pub fits : (k : ℕ) → k < length numbers → slice_index numbers k ≤ vars
  pub once : (i k : ℕ) → i < length numbers → k < length numbers → slice_index numbers i ≡ slice_index numbers k → i ≡ k
  pub there : (v : ℕ) → v ≤ vars → Contains numbers v

-- each number leads to that behind it, and the last to the first
pub record AreInRing (numbers next : List ℕ) : Type 0 where
  pub behind : (k : ℕ) → k + 1 < length numbers → slice_index next (slice_index numbers k) ≡ slice_index numbers (k + 1)
  pub around : (k : ℕ) → k + 1 ≡ length numbers → slice_index next (slice_index numbers k) ≡ slice_index numbers 0

-- what the last variable is once a variable is taken out of the ring
abbrev pub last_but : List ℕ → List ℕ → ℕ → ℕ
last_but previous next v = slice_index (slice_set previous (slice_index next v) (slice_index previous v)) 0

-- the links once a variable is taken out of the ring and put in as its last
abbrev pub previous_moved : List ℕ → List ℕ → ℕ → List ℕ
previous_moved previous next v = slice_set (slice_set (slice_set previous (slice_index next v) (slice_index previous v)) v (last_but previous next v)) 0 v

abbrev pub next_moved : List ℕ → List ℕ → ℕ → List ℕ
next_moved previous next v = slice_set (slice_set (slice_set next (slice_index previous v) (slice_index next v)) (last_but previous next v) v) v 0

-- whether a variable is in; 0 isn't
abbrev pub stands_in : List Bool → ℕ → Bool
stands_in inside zero = false
stands_in inside (suc n) = slice_index_or inside n false

-- no variable of greater rank is in
pub record IsCursor (f : ℕ → ℕ) (vars : ℕ) (inside : List Bool) (cursor : ℕ) : Type 0 where
  pub fits : cursor ≤ vars
  pub none_before : (v : ℕ) → v ≤ vars → f cursor < f v → stands_in inside v ≡ false

-- where the search for the first variable that is in begins once a variable is the last of the ring
abbrev pub cursor_moved : List Bool → List ℕ → ℕ → ℕ → ℕ
cursor_moved inside previous cursor v = if stands_in inside v then v else if nat_eq cursor v then slice_index previous v else cursor

abbrev pub order_in : ℕ → List ℕ → List Bool → ℕ → OrderState
order_in vars activities inside top = record { vars = vars; activities = activities; inside = inside; top = top }

-- what holds of the parts of an order
pub record AreParts (vars : ℕ) (activities : List ℕ) (inside : List Bool) (previous next : List ℕ) (cursor top : ℕ) : Type 0 where
  pub few : vars ≤ MOST
  pub activity_each : length activities ≡ vars
  pub inside_each : length inside ≡ vars
  pub links : AreLinks (rank_of activities) vars previous next
  pub is_cursor : IsCursor (rank_of activities) vars inside cursor
  pub activities_fit : (k : ℕ) → slice_index activities k ≤ top
  pub most : top ≤ MOST_ACTIVITY
